use Rattle.client_quorum.proofs.RowLemmas.{row_of}
use Rattle.client_quorum.proofs.laws.steps_are_rows.Goals as goal

pub returns : goal.returns
returns c = row_of
