use Rattle.transcript_rows.proofs.LineRows.{line_as_row}
use Rattle.transcript_rows.proofs.laws.lines_are_rows.Goals as goal

pub returns : goal.returns
returns c = line_as_row
