use Rattle.std.proofs.Common.{◌≡◌, ◌++◌}
use Rattle.nop_types.specs.declared.output.Actor.TheVariants.{Sequencer}
use Rattle.picture_arrows.specs.Actors.{numbered}
use Rattle.picture_arrows.proofs.lane_actors.put_sequencers.Given as goal

abbrev pub invariant-loop-i : goal.invariant-loop-i
invariant-loop-i l = l.actors.items ≡ l.initial.actors.items ++ numbered Sequencer l.i
