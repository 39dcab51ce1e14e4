use Rattle.std.proofs.Common.{◌≡◌, ◌++◌}
use Rattle.nop_types.specs.declared.output.Actor.TheVariants.{Client}
use Rattle.picture_arrows.specs.Actors.{numbered}
use Rattle.picture_arrows.proofs.lane_actors.put_clients.Given as goal

abbrev pub invariant-loop-i : goal.invariant-loop-i
invariant-loop-i l = l.actors.items ≡ l.initial.actors.items ++ numbered Client l.i
