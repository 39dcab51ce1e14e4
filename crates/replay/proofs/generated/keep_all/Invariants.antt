use Rattle.std.proofs.Common.{◌-◌}
use Rattle.replay.specs.Generating.{KeepsTo}
use Rattle.replay.proofs.generated.keep_all.Given as goal

abbrev pub invariant-loop-done : goal.invariant-loop-done
invariant-loop-done g l = KeepsTo g.H.Host.meaning l.number l.count (l.count - l._done) l.events.items l.world.state l.words
