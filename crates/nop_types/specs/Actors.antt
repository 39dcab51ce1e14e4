-- Which actors are one, and their numbers.
use Rattle.std.specs.Prelude.{ℕ, Bool, false, ◌==◌}
use Rattle.nop_types.specs.declared.output.Actor.{Actor}
use Rattle.nop_types.specs.declared.output.Actor.TheVariants.{Replica, Sequencer, Client, Controller, Observer}

abbrev pub same_actor : Actor → Actor → Bool
same_actor (Replica i) (Replica j) = i == j
same_actor (Sequencer i) (Sequencer j) = i == j
same_actor (Client i) (Client j) = i == j
same_actor (Controller i) (Controller j) = i == j
same_actor (Observer i) (Observer j) = i == j
same_actor _ _ = false

abbrev pub number_of : Actor → ℕ
number_of (Replica i) = i
number_of (Sequencer i) = i
number_of (Client i) = i
number_of (Controller i) = i
number_of (Observer i) = i
