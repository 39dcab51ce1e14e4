use Rattle.transcript_rows.proofs.RowTexts.{row_again}
use Rattle.transcript_rows.proofs.laws.written_rows_are_read.Goals as goal

pub returns : goal.returns
returns c = row_again
