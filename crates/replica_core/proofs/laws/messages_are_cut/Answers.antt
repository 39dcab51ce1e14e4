use Rattle.replica_core.proofs.Lengths.{message_is_cut}
use Rattle.replica_core.proofs.laws.messages_are_cut.Goals as goal

pub returns : goal.returns
returns c = message_is_cut
