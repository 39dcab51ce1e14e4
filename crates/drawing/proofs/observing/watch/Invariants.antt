use Rattle.drawing.specs.Gathered.{IsIntact}
use Rattle.drawing.proofs.observing.watch.Given as goal

abbrev pub invariant-loop-number : goal.invariant-loop-number
invariant-loop-number g l = IsIntact l.recorder → IsIntact l.fn.recorder
