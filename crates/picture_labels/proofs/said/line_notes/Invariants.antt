use Rattle.std.proofs.Common.{All}
use Rattle.picture_labels.specs.Clients.{IsOfClient}
use Rattle.picture_labels.proofs.said.line_notes.Given as goal

abbrev pub invariant-loop-line : goal.invariant-loop-line
invariant-loop-line g l = All (λ n. IsOfClient n.mark) l.notes.items
