use Rattle.client_reads.proofs.RowLemmas.{row_of}
use Rattle.client_reads.proofs.laws.steps_are_rows.Goals as goal

pub returns : goal.returns
returns c = row_of
