-- What a gateway gives, over its ports.
use Rattle.std.specs.Prelude.{◌≡◌, ◌⊎◌, ℕ, false, nat_lt, if◌then◌else◌, List, ◌++◌, map, Option, Some, None, Result, Err, ⊤}
use Rattle.nop_types.specs.Configuration.{Configuration}
use Rattle.nop_types.specs.Machine.{Machine}
use Rattle.nop_types.specs.declared.limits.TheConstants.{MAX_OBSERVERS}
use Rattle.observer.specs.ObserverSteps as observers
use Rattle.observer.specs.ObserverSteps.{Observer}
use Rattle.outside.specs.declared.link.Link as link_trait
use Rattle.outside.specs.declared.link.PollAnswer.{PollAnswer}
use Rattle.roll_call.specs.Rolls.{Rolled}
use Rattle.watching.specs.Watching as watching
use Rattle.watching.specs.Watching.{Watching}
use Rattle.gate_core.specs.declared.gate_state.GateState.{GateState}
use Rattle.gate.specs.declared.errors.GateError.{GateError}
use Rattle.gate.specs.declared.errors.GateError.TheVariants.{PortFault, NoMemory}
use Rattle.gate.specs.Attaching.{AreNew, seat_count}
use Rattle.gate.specs.Carrying.{Runs}
use Rattle.gate.specs.Sides.{LinkSeen, Side, UsersSeen, link_seen, seen}

-- the error where not all links were attached
abbrev pub IsUnattached : {T : Type 0} → Result T GateError → Type 0
IsUnattached (Err PortFault) = ⊤
IsUnattached (Err NoMemory) = ⊤
IsUnattached _ = ⊥

-- what a gateway watches at the place of an observer, if it has one: nothing is seen yet, and nodes of a roll are to be asked
abbrev pub watch_at : Option ℕ → Rolled → Configuration → Option Watching
watch_at None roll config = None
watch_at (Some i) roll config = Some (watching.opening false config.replicas roll)

-- what is read at that place: an observer that has heard nothing yet, where observers have such numbers
abbrev pub near_at : Option ℕ → Configuration → Option (Machine Observer)
near_at None config = None
near_at (Some i) config = if nat_lt i MAX_OBSERVERS then Some (record { failed = false; state = observers.opening config i }) else None

module _ {L : Type 0} (l : link_trait.Ghosts L) where
  -- the gateway ran over links that it held, and that were given back
  pub record RunsOver {T : Type 0} (result : Result T GateError) (from : Side) (users : UsersSeen) (given given_now : List L) : Type 0 where
    pub links : List L
    pub back : given_now ≡ given ++ links
    pub ends : GateState
    pub runs : Runs result from (seen ends users (record { cores = from.links.cores; links = map (link_seen l) links }))

  -- it ran from this state over links that were attached for it: those of the cores, and that of the watch
  pub record Served {T : Type 0} (g : GateState) (observer : Option ℕ) (count : ℕ) (to_come : Option (List (List PollAnswer))) (result : Result T GateError)
      (old new : UsersSeen) (given given_now : List L) : Type 0 where
    pub attached : List LinkSeen
    pub are : AreNew (seat_count observer count) to_come attached
    pub runs : RunsOver result (seen g old (record { cores = count; links = attached })) new given given_now

  -- or no call was made on users
  abbrev pub Serves : {T : Type 0} → GateState → (observer : Option ℕ) → (count : ℕ) → Option (List (List PollAnswer)) → Result T GateError → UsersSeen → UsersSeen
      → List L → List L → Type 0
  Serves g observer count to_come result old new given given_now =
      (IsUnattached result × (new ≡ old)) ⊎ Served g observer count to_come result old new given given_now
