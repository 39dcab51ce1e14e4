use Rattle.client_reads.proofs.Turns.{was_asked}
use Rattle.client_reads.proofs.laws.answers_what_was_asked.Goals as goal

pub returns : goal.returns
returns c = was_asked
