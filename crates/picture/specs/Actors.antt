-- When two actors are the same.
use Rattle.std.specs.Prelude.{Bool, false, ◌==◌}
use Rattle.nop_types.specs.declared.output.Actor.{Actor}
use Rattle.nop_types.specs.declared.output.Actor.TheVariants.{Replica, Sequencer, Client, Controller, Observer}

abbrev pub same : Actor → Actor → Bool
same (Replica i) (Replica j) = i == j
same (Sequencer i) (Sequencer j) = i == j
same (Client i) (Client j) = i == j
same (Controller i) (Controller j) = i == j
same (Observer i) (Observer j) = i == j
same _ _ = false
