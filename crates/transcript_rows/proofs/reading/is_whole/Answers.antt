use Rattle.std.proofs.lemmas.List.{take_rest}
use Rattle.transcript_rows.proofs.Wholes.{by_end, prefix_is}
use Rattle.transcript_rows.proofs.reading.is_whole.Goals as goal

pub returns-then-is_same : goal.returns-then-is_same
returns-then-is_same c =
    by_end c.args.text.now c.args.line.now c.is_same-then-is_same.result c.if-is_same.ensures (rw take_rest at c.is_same-then-is_same.ensures)

pub returns-else-is_same : goal.returns-else-is_same
returns-else-is_same c = rw c.if-is_same.false (λ e. c.if-is_same.ensures (prefix_is c.args.text.now c.args.line.now e))
