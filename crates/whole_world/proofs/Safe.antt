-- Each run of the whole world is safe.
use Rattle.std.proofs.Common.{◌≡◌, ℕ, ◌+◌, ◌*◌, sym, subst, List}
use Rattle.std.specs.Prelude.{◌/◌}
use Rattle.nop_types.specs.Configuration.{Configuration}
use Rattle.nop_types.specs.Meaning.{Meaning}
use Rattle.nop_types.specs.declared.output.Actor.{Actor}
use Rattle.protocol.specs.Conf.{Conf, opening}
use Rattle.protocol.specs.Runs.{run, MayAll}
use Rattle.protocol_sync.specs.Sound.{GoesOn}
use Rattle.protocol_sync.proofs.Sounding.{runs_go_on}
use Rattle.whole_world.specs.Whole.{Brings}
use Rattle.whole_world.specs.Passed.{Passed, first, passed}
use Rattle.whole_world.specs.Shows.{Shows}
use Rattle.whole_world.specs.Safe.{Leads, IsSafe, WasSafe, WholeRunsAreSafe}
use Rattle.whole_world.proofs.At.{At}
use Rattle.whole_world.proofs.Concluding.{ran_sound, inv, sync, accepted, agreed, legal, not_stale}
use Rattle.whole_world.proofs.Counts.{counts_from}
use Rattle.whole_world.proofs.Events.{Before, events_reach}
use Rattle.whole_world.proofs.Opening.{opening_stands}
use Rattle.whole_world.proofs.Steps.{steps_lead}

at_shows : {S : Type 0} (m : Meaning S) (f : ℕ) (config : Configuration) (p : Passed) (c : Conf) → At m f config p c → Shows f p c
at_shows m f config p c at = record {
  actors = at.stands.actors;
  carries = at.stands.carries;
  tells = at.stands.tells;
  lines = at.lines;
  past = at.past;
}

module _ {S : Type 0} (m : Meaning S) (config : Configuration) (count : config.replicas ≡ 2 * (config.replicas / 2) + 1) where
  abbrev f : ℕ
  f = config.replicas / 2

  abbrev is_safe : (es : List (Actor × Brings)) (c : Conf) → At m f config (passed m config es) c → IsSafe m config es
  is_safe es c at = record {
    conf = c;
    ran = at.ran;
    inv = inv m f config count c (passed m config es) at;
    sync = sync m f config count c (passed m config es) at;
    shows = at_shows m f config (passed m config es) c at;
    sound = ran_sound m f config count c at.ran;
    agreed = agreed m f config count c (passed m config es) at;
    legal = legal m f config count c (passed m config es) at;
    accepted = accepted m f config count c (passed m config es) at;
    not_stale = not_stale m f config count c (passed m config es) at;
  }

  -- moves lead on from each time before
  pub leads_on : (c last : Conf) → Leads m f (opening config) c → Leads m f c last → GoesOn f c last
  leads_on c last ran on =
      let may = subst (λ (d : Conf). MayAll m f d on.moves) (sym ran.ends) on.may in
      subst (GoesOn f c) on.ends
      (subst (λ (d : Conf). GoesOn f d (run m f d on.moves)) ran.ends (runs_go_on m f config ran.moves on.moves count ran.may may))

  was_safe : (prefix : List (Actor × Brings)) (last : Conf) → Before m f config (first config) prefix last → WasSafe m config prefix last
  was_safe prefix last h = record {
    then = is_safe prefix h.conf h.at;
    leads = h.leads;
    goes_on = leads_on h.conf last h.at.ran h.leads;
  }

pub whole_runs_are_safe : {S : Type 0} (m : Meaning S) → WholeRunsAreSafe m
whole_runs_are_safe m short config es is fit =
    let count = (counts_from config is).replicas in
    let r = events_reach m (config.replicas / 2) config (steps_lead m (config.replicas / 2) config short) es (first config) (opening config)
    fit (opening_stands m (config.replicas / 2) config is count) in
    record {
      at_last = is_safe m config count es r.last r.at;
      before = λ prefix rest split. was_safe m config count prefix r.last (r.before prefix rest split);
    }
