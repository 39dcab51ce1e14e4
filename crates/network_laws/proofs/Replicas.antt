-- A replica of a network stays one where others send.
use Rattle.std.proofs.Common.{◌≢◌, ◌<◌, ℕ, refl, sym, subst, ◌∙◌, arith}
use Rattle.std.proofs.Common.{List, [], ◌++◌}
use Rattle.std.specs.Prelude.{IsTrue}
use Rattle.nop_types.specs.Configuration.{Configuration, is_configuration}
use Rattle.nop_types.specs.Logs.{Trimmed}
use Rattle.nop_types.specs.declared.datagram.Fragment.{Fragment}
use Rattle.lemmas.specs.Functions.{put}
use Rattle.lemmas.proofs.Functions.{put-other}
use Rattle.fragments.specs.Joining.{Waiting}
use Rattle.fragments.specs.Runs.{AllCame}
use Rattle.fragments.proofs.Came.{opening_came, stays_came}
use Rattle.replica_core.specs.ReplicaSteps.{Replica, opening}
use Rattle.network_laws.specs.Network.{fragments_among}
use Rattle.network_laws.specs.Steps.{InNetwork}
use Rattle.network_laws.proofs.InRanges.{opens_in_ranges}
use Rattle.network_laws.proofs.Networks.{among_append}

pub opening_in_network : (config : Configuration) (r : ℕ) → IsTrue (is_configuration config) → r < config.replicas
    → InNetwork [] (λ (q : ℕ). 0) r (opening config r)
opening_in_network config r is below =
    let ranges = opens_in_ranges Trimmed config r is below in
    record {
      number = refl;
      messages = refl;
      range = omega arith;
      came = opening_came [] config.replicas;
      within = ranges.0;
      receiver = ranges.1;
    }

-- what came of what was sent came of that and more
pub came_of_more : (sent more : List (List ℕ)) (all : List Waiting) → AllCame (fragments_among sent) all
    → AllCame (fragments_among (sent ++ more)) all
came_of_more sent more all h =
    subst (λ (fs : List Fragment). AllCame fs all) (sym (among_append sent more))
    (stays_came (fragments_among sent) (fragments_among more) all h)

-- another actor sends
pub stays_in_network : (sent more : List (List ℕ)) (used : ℕ → ℕ) (r : ℕ) (s : Replica) → InNetwork sent used r s
    → InNetwork (sent ++ more) used r s
stays_in_network sent more used r s h = record {
  number = h.number;
  messages = h.messages;
  range = h.range;
  came = came_of_more sent more s.reassembly h.came;
  within = h.within;
  receiver = h.receiver;
}

-- another replica sends
pub other_in_network : (sent more : List (List ℕ)) (used : ℕ → ℕ) (r q n : ℕ) (s : Replica) → q ≢ r → InNetwork sent used q s
    → InNetwork (sent ++ more) (put used r n) q s
other_in_network sent more used r q n s other h = record {
  number = h.number;
  messages = h.messages ∙ sym (put-other used r n q other);
  range = h.range;
  came = came_of_more sent more s.reassembly h.came;
  within = h.within;
  receiver = h.receiver;
}
