-- What was read in a run is right: of the lines, and of each observer.
use Rattle.std.specs.Prelude.{◌≡◌, ◌⊎◌, ◌/◌, ℕ, List, Some, IfSome, slice_get}
use Rattle.nop_types.specs.Configuration.{Configuration}
use Rattle.nop_types.specs.Lists.{IsPrefixOf}
use Rattle.nop_types.specs.Meaning.{Meaning}
use Rattle.nop_types.specs.Reads.{ReadsAreRight}
use Rattle.nop_types.specs.declared.request.Entry.{Entry}
use Rattle.started_views.specs.Past.{LeaderHad}
use Rattle.protocol.specs.Conf.{Conf}
use Rattle.observer.specs.ObserverSteps.{Observer}
use Rattle.observer.specs.Observing.{Observing, position}
use Rattle.observer_laws.specs.Trimmed.{trimmed_observing}
use Rattle.observer_laws.specs.Watching.{Watches}
use Rattle.read_laws.specs.Runs.{ObserversReceived}
use Rattle.world.specs.Seats.{Seated}
use Rattle.world.specs.WorldSteps.{WorldState, Happened, main_log}
use Rattle.safety.specs.Observers.{ReadsHistory}

-- an observer, by a configuration of the protocol that shows the run
pub record ObserverIsRight {S : Type 0} (m : Meaning S) (f : ℕ) (c : Conf) (w : WorldState) (s : Observing) : Type 0 where
  -- it is one whose logs are kept whole, trimmed
  pub whole : Observing
  pub is : s ≡ trimmed_observing m whole
  -- what that one executed begins the log of a view's leader, and its position is anchored there: f others had answered that they are
  -- synchronised so far
  pub known : (position whole ≡ 0) ⊎ Watches f c whole.known.entries (position whole)
  -- its candidate begins the log of its view's leader
  pub candidate : IfSome whole.candidate (λ x. (lead : List Entry) × LeaderHad f c.past x.view lead × IsPrefixOf x.log.entries lead)
  -- and what it reads is that of the history's members in the first slots of the main log
  pub reads : ReadsHistory m w s

pub record Reads {S : Type 0} (m : Meaning S) (config : Configuration) (c : Conf) (h : Happened) : Type 0 where
  -- each answer was asked, once, is right, and goes back behind nothing that was told before it was asked for
  pub lines : ReadsAreRight m h.lines (main_log h.world)
  -- only what was sent came to observers
  pub received : ObserversReceived m config h.world
  pub observers : (i : ℕ) (p : Seated Observer) → slice_get h.world.observers i ≡ Some p
      → ObserverIsRight m (config.replicas / 2) c h.world p.state.heard.state
