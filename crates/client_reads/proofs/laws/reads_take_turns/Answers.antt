use Rattle.client_reads.proofs.Turns.{reads_take_turns}
use Rattle.client_reads.proofs.laws.reads_take_turns.Goals as goal

pub returns : goal.returns
returns c = reads_take_turns
