-- Safety: in each world that events lead to.
use Rattle.std.specs.Prelude.{◌≡◌, ◌++◌, ℕ, ⊤, List, take, drop, true, Some, Result, Ok, Err, slice_get}
use Rattle.nop_types.specs.Configuration.{Configuration, is_configuration}
use Rattle.nop_types.specs.Legality.{Legal}
use Rattle.nop_types.specs.Lines.{Line}
use Rattle.nop_types.specs.Lists.{Has}
use Rattle.nop_types.specs.Meaning.{Meaning}
use Rattle.nop_types.specs.declared.output.Accept.{Accept}
use Rattle.nop_types.specs.declared.output.Actor.{Actor}
use Rattle.execution_laws.specs.Legality.{StandsFrom}
use Rattle.client_quorum.specs.Core.{Client}
use Rattle.replica_core.specs.ReplicaSteps.{Replica}
use Rattle.protocol_sync.specs.Laws.{OpenIsNotStaleIn}
use Rattle.schedule_text.specs.declared.event.Event.{Event}
use Rattle.schedule_text.specs.Fits.{EventsFit}
use Rattle.world.specs.Agreement.{Agreed}
use Rattle.world.specs.Archive.{with_archive}
use Rattle.world.specs.Seats.{Seated}
use Rattle.world.specs.WorldSteps.{WorldState, Happened, Refusal, NoSuchActor, NoSuchDatagram, Forged, run_from, run, history, main_log}
use Rattle.world.specs.declared.step_error.StepError.{StepError}
use Rattle.world.specs.declared.step_error.StepError.TheVariants as errors
use Rattle.whole_world.specs.Safe.{IsSafeThroughout}
use Rattle.whole_world.specs.Whole.{Brings}
use Rattle.safety.specs.Following.{all_brought, whole_after, FollowsWhole}
use Rattle.safety.specs.Reads.{Reads}

-- replicas agree as far as they are synchronised, and what was accepted is of the one history
pub record Safe {S : Type 0} (m : Meaning S) (h : Happened) : Type 0 where
  pub agreed : Agreed h.world
  pub legal : Legal m h.lines (history h.world)

-- what a client keeps as accepted stands in the main log from its slot on: the history of the first slots has it with its result, of as
-- many as its slot says or more. An answer to a read is of such a history, so one whose position is not below the slot is of one with it
abbrev pub AcceptedStand : {S : Type 0} → Meaning S → WorldState → Type 0
AcceptedStand m w = (k : ℕ) (p : Seated Client) (a : Accept) → slice_get w.others.clients k ≡ Some p → Has p.state.requests.recent a
    → StandsFrom m (main_log w) k a.id a.slot a.result

-- no open request of a client is stale in the log of any replica, of a crashed one too; logs with the entries that were trimmed
abbrev pub OpenIsNotStale : WorldState → Type 0
OpenIsNotStale w = (i k : ℕ) (a : Seated Replica) (p : Seated Client) → slice_get w.replicas i ≡ Some a
    → slice_get w.others.clients k ≡ Some p → OpenIsNotStaleIn (with_archive w.archive a.state.state.log) k p.state.requests

-- after the first events the real world followed the whole one, and all that they brought comes first of what all bring
pub record Followed {S : Type 0} (m : Meaning S) (config : Configuration) (es prefix : List Event) : Type 0 where
  pub happened : Happened
  pub is : run m config prefix ≡ Ok happened
  pub follows : FollowsWhole m happened (whole_after m config prefix)
  pub rest : List (Actor × Brings)
  pub parts : all_brought m config es ≡ all_brought m config prefix ++ rest

-- what the events brought led the whole world, safely at each time: a configuration of the protocol shows it, in which all that was
-- stamped, said, logged, replied and accepted is sound, and nothing of that was taken back; the real world followed it at each time
pub record SafelyPassed {S : Type 0} (m : Meaning S) (config : Configuration) (es : List Event) (h : Happened) : Type 0 where
  pub whole : IsSafeThroughout m config (all_brought m config es)
  pub follows : FollowsWhole m h (whole_after m config es)
  pub before : (prefix rest : List Event) → es ≡ prefix ++ rest → Followed m config es prefix
  pub safe : Safe m h
  -- what clients keep as accepted is in the history from their slots on
  pub accepted_slots : AcceptedStand m h.world
  -- and what they have open is stale in no replica's log
  pub not_stale : OpenIsNotStale h.world
  -- what was read is right, and so is each observer
  pub reads : Reads m config whole.at_last.conf h

-- for every list of events that are not refused
abbrev pub RunsAreSafe : {S : Type 0} → Meaning S → Type 0
RunsAreSafe m = (config : Configuration) (es : List Event) (h : Happened) → is_configuration config ≡ true → EventsFit es
    → run m config es ≡ Ok h → SafelyPassed m config es h

-- the events lead to this world, and all of that holds of it
pub record LeadTo {S : Type 0} (m : Meaning S) (config : Configuration) (es : List Event) (w : WorldState) : Type 0 where
  pub lines : List Line
  pub is : run m config es ≡ Ok (record { world = w; lines = lines })
  pub safely : SafelyPassed m config es (record { world = w; lines = lines })

-- the error is the refusal of the first event that is refused, or memory ran out
abbrev pub IsRefusedBy : StepError → Result Happened Refusal → Type 0
IsRefusedBy (errors.NoSuchDatagram index sent) r = r ≡ Err (NoSuchDatagram index sent)
IsRefusedBy errors.NoSuchActor r = r ≡ Err NoSuchActor
IsRefusedBy errors.Forged r = r ≡ Err Forged
IsRefusedBy errors.NoMemory r = ⊤

-- some events led to this world, each of them in its ranges, and the rest leads where all of them lead
pub record Running {S : Type 0} (m : Meaning S) (config : Configuration) (es : List Event) (w : WorldState) (i : ℕ) : Type 0 where
  pub lines : List Line
  pub goes : run_from m lines w (drop i es) ≡ run m config es
  pub fit : EventsFit (take i es)
