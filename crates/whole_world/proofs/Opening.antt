-- The opening of the protocol stands for the opening of the whole world.
use Rattle.std.proofs.Common.{◌≡◌, ℕ, zero, suc, ◌+◌, ◌*◌, ◌<◌, Some, refl, sym, ap, subst, ◌∙◌, arith, inl, inr, length, length-append}
use Rattle.std.proofs.Common.{[], ◌∷◌}
use Rattle.std.specs.Prelude.{◌^◌, slice_get, IsTrue}
use Rattle.std.proofs.lemmas.Option.{slice_get_within}
use Rattle.nop_types.specs.Configuration.{Configuration, is_configuration}
use Rattle.nop_types.specs.Logs.{Whole}
use Rattle.nop_types.specs.Meaning.{Meaning}
use Rattle.nop_types.specs.declared.limits.TheConstants.{MAX_CONTROLLERS}
use Rattle.lemmas.proofs.Members.{Has-none}
use Rattle.lemmas.proofs.Places.{slice_get-push_cases}
use Rattle.client_quorum.specs.Core.{Client}
use Rattle.replica_state.specs.State.{PointsMeet}
use Rattle.sequencer.specs.SequencerSteps as sequencer
use Rattle.session_control.specs.declared.state.ControllerState.{ControllerState}
use Rattle.session_control.specs.ControllerSteps as controller
use Rattle.session_control.proofs.Epochs.{opens_at_home, opens_fits}
use Rattle.protocol.specs.Conf.{opening}
use Rattle.world.specs.Seats.{Seated, seated}
use Rattle.world.specs.Others.{Kind, Sequencers, Clients, Controllers, State, seats}
use Rattle.world.specs.WorldSteps.{numbered_seats, opening_client, opening_others}
use Rattle.world.proofs.Refusals.{opening_has_actors}
use Rattle.network_laws.proofs.InRanges.{opens_in_ranges}
use Rattle.refinement.specs.Controllers.{control_of}
use Rattle.refinement.specs.Projection.{local_state_of}
use Rattle.whole_world.specs.Whole.{WholeReplica, opening_replica}
use Rattle.whole_world.specs.Passed.{first}
use Rattle.whole_world.specs.Shows.{IsShown}
use Rattle.whole_world.proofs.At.{OtherFits, ReplicaFits, At}
use Rattle.whole_world.proofs.Counts.{counts_from}

some_sequencer : (config : Configuration) → IsTrue (is_configuration config) → 0 < config.sequencers
some_sequencer config is = grind (arith, is)

controller_opens : (config : Configuration) → IsTrue (is_configuration config) → (k : ℕ) → k < config.controllers
    → controller.IsWithin (controller.opening config k)
controller_opens config is k l =
    let few = counts_from config is in
    let low : k < MAX_CONTROLLERS = omega (arith, l, few.controllers) in
    record {
      config = is;
      number = low;
      session = opens_fits k low;
      own = opens_at_home k low;
      seen = omega arith;
      current = some_sequencer config is;
      missed = omega arith;
    }

pub counted_length : {S : Type 0} (make : ℕ → S) (n : ℕ) → length (numbered_seats make n) ≡ n
counted_length make zero = refl
counted_length make (suc n) = omega (arith, length-append (numbered_seats make n) (seated (make n) ∷ []), counted_length make n)

pub counted_get : {S : Type 0} (make : ℕ → S) (n i : ℕ) (p : Seated S) → slice_get (numbered_seats make n) i ≡ Some p → make i ≡ p.state
counted_get make zero i p e = absurd cc
counted_get make (suc n) i p e = elim (slice_get-push_cases (numbered_seats make n) (seated (make n)) i p e) [
  | inl h ↦ counted_get make n i p h.1
  | inr (a, b) ↦ ap make (a ∙ counted_length make n) ∙ ap (λ (q : Seated _). q.state) b
]

pub counted_within : {S : Type 0} (make : ℕ → S) (n i : ℕ) (p : Seated S) → slice_get (numbered_seats make n) i ≡ Some p → i < n
counted_within make n i p e = omega (arith, slice_get_within (numbered_seats make n) i p e, counted_length make n)

client_opens : (config : Configuration) → IsTrue (is_configuration config) → (k : ℕ) → k < config.clients
    → OtherFits Clients (opening_client config k)
client_opens config is k l =
    let few = counts_from config is in
    let small : k < 2 ^ 32 = omega (arith, l, few.clients) in (
      record { number = small; waiting = λ op h. absurd (Has-none op h) },
      record { number = small; last_id = omega arith; pending = tt },
    )

replica_opens : (config : Configuration) → IsTrue (is_configuration config) → (i : ℕ) → i < config.replicas
    → ReplicaFits i (opening_replica config i)
replica_opens config is i l =
    let ranges = opens_in_ranges Whole config i is l in
    record { number = refl; range = omega arith; within = ranges.0; receiver = ranges.1 }

others_shown : (config : Configuration) (k : Kind) (i : ℕ) (p : Seated (State k))
    → slice_get (seats k (opening_others config)) i ≡ Some p → IsShown k (opening config) i p.state
others_shown config Sequencers i p e = counted_get sequencer.opening config.sequencers i p e
others_shown config Clients i p e = ap (λ (s : Client). s.requests) (counted_get (opening_client config) config.clients i p e)
others_shown config Controllers i p e =
    let opens : controller.opening config i ≡ p.state = counted_get (controller.opening config) config.controllers i p e in
    (ap control_of opens, ap (λ (s : ControllerState). s.number) (sym opens))

others_fit : (config : Configuration) → IsTrue (is_configuration config) → (k : Kind) (i : ℕ) (p : Seated (State k))
    → slice_get (seats k (opening_others config)) i ≡ Some p → OtherFits k p.state
others_fit config is Clients i p e =
    subst (OtherFits Clients) (counted_get (opening_client config) config.clients i p e)
    (client_opens config is i (counted_within (opening_client config) config.clients i p e))
others_fit config is Controllers i p e =
    subst controller.IsWithin (counted_get (controller.opening config) config.controllers i p e)
    (controller_opens config is i (counted_within (controller.opening config) config.controllers i p e))
others_fit config is _ i p e = tt

pub opening_stands : {S : Type 0} (m : Meaning S) (f : ℕ) (config : Configuration) → IsTrue (is_configuration config)
    → config.replicas ≡ 2 * f + 1 → At m f config (first config) (opening config)
opening_stands m f config is count = record {
  ran = record { moves = []; may = tt; ends = refl };
  stands = record {
    same = refl;
    actors = record {
      is_configuration = is;
      config = count;
      replica_count = counted_length (opening_replica config) config.replicas;
      other_count = (opening_has_actors config).others;
      replicas = λ i q e. ap (λ (r : WholeReplica). local_state_of r.state) (counted_get (opening_replica config) config.replicas i q e);
      points = λ i q e. subst (λ (r : WholeReplica). PointsMeet r.state) (counted_get (opening_replica config) config.replicas i q e) refl;
      others = others_shown config;
      givers = λ x h. absurd (Has-none x h);
    };
    carries = record {
      spelled = λ s h. absurd (Has-none s h);
      only = λ s d h. absurd (Has-none s h);
      requests = λ r h. absurd (Has-none r h);
      stamps = λ x h. absurd (Has-none x h);
      replies = λ y h. absurd (Has-none y h);
      installs = λ x h. absurd (Has-none x h);
    };
    tells = record {
      fits = λ q h. absurd (Has-none q h);
      all = λ q h. absurd (Has-none q h);
      only = λ x h. absurd (Has-none x h);
    };
    ranges = record {
      replicas = λ i q e. subst (ReplicaFits i) (counted_get (opening_replica config) config.replicas i q e) (replica_opens config is i
          (counted_within (opening_replica config) config.replicas i q e));
      others = others_fit config is;
    };
  };
  lines = refl;
  past = refl;
}
