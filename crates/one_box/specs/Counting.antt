-- How many events a cluster may keep.
use Rattle.std.specs.Prelude.{◌≤◌, ◌+◌, ℕ, List, length, map, sum}
use Rattle.nop_types.specs.Configuration.{Configuration}
use Rattle.nop_types.specs.declared.output.Actor.{Actor}
use Rattle.schedule_text.specs.declared.event.Event.{Event}
use Rattle.world.specs.Lookups.{timers_of}
use Rattle.world.specs.WorldSteps.{WorldState, opening}
use Rattle.one_box.specs.declared.node.BoxActor as code_node
use Rattle.one_box.specs.Actors.{actors_of}

-- at most so many events more
abbrev pub AtMost : ℕ → List Event → List Event → Type 0
AtMost n old new = length new ≤ length old + n

-- an actor's part of a turn: an event for each of its timers, and one for what it polls
abbrev pub part_of : {L : Type 0} → code_node.BoxActor L → ℕ
part_of x = length x.timers.items + 1

-- of all actors
abbrev pub turn_of : {L : Type 0} → List (code_node.BoxActor L) → ℕ
turn_of xs = sum (map part_of xs)

abbrev pub part_in : WorldState → Actor → ℕ
part_in w actor = length (timers_of w actor) + 1

-- as many events as a turn of all actors of a configuration has at most
abbrev pub turn_in : Configuration → ℕ
turn_in c = sum (map (part_in (opening c)) (actors_of c))

-- and of any configuration: of seven replicas with three timers, four sequencers with none, four controllers and sixteen clients with two
abbrev pub most_of_turn : ℕ
most_of_turn = 92
