use Rattle.drawing.specs.Gathered.{AddsSome}
use Rattle.drawing.proofs.standing.put_changed.Given as goal

abbrev pub invariant-loop-held : goal.invariant-loop-held
invariant-loop-held l = AddsSome l.fn.notes l.notes
