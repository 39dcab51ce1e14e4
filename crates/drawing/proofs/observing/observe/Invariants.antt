use Rattle.std.proofs.Common.{◌≡◌}
use Rattle.drawing.specs.Gathered.{IsIntact}
use Rattle.drawing.proofs.observing.observe.Given as goal

abbrev pub invariant-loop-index : goal.invariant-loop-index
invariant-loop-index g l =
    record {
      intact : IsIntact l.recorder → IsIntact l.fn.recorder;
      rows : l.recorder.picture.rows ≡ l.fn.recorder.picture.rows;
    }
