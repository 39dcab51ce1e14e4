use Rattle.std.proofs.Common.{◌≡◌, ◌++◌}
use Rattle.nop_types.specs.declared.output.Actor.TheVariants.{Observer}
use Rattle.picture_arrows.specs.Actors.{numbered}
use Rattle.picture_arrows.proofs.lane_actors.put_observers.Given as goal

abbrev pub invariant-loop-i : goal.invariant-loop-i
invariant-loop-i l = l.actors.items ≡ l.initial.actors.items ++ numbered Observer l.i
