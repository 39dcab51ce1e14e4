use Rattle.std.proofs.Common.{◌-◌}
use Rattle.replay.specs.Generating.{CountsTo}
use Rattle.replay.proofs.generated.count_all.Given as goal

abbrev pub invariant-loop-done : goal.invariant-loop-done
invariant-loop-done g l =
    CountsTo g.H.Host.meaning l.number l.count (l.count - l._done) l.world.state l.words l.counts.sends l.counts.accepts
