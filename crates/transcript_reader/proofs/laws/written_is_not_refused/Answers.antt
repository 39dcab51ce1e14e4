use Rattle.transcript_reader.proofs.Spellings.{written_is_not_refused}
use Rattle.transcript_reader.proofs.laws.written_is_not_refused.Goals as goal

pub returns : goal.returns
returns c = written_is_not_refused
