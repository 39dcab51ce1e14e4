use Rattle.transcript_reader.proofs.Spellings.{read_in_one_way}
use Rattle.transcript_reader.proofs.laws.read_in_one_way.Goals as goal

pub returns : goal.returns
returns c = read_in_one_way
