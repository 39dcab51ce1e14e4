use Rattle.network_laws.proofs.Carrying.{joined_was_sent}
use Rattle.network_laws.proofs.laws.joined_was_sent.Goals as goal

pub returns : goal.returns
returns c = joined_was_sent
