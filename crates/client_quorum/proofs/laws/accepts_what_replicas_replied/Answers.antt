use Rattle.client_quorum.proofs.Received.{accepts_replied}
use Rattle.client_quorum.proofs.laws.accepts_what_replicas_replied.Goals as goal

pub returns : goal.returns
returns c = accepts_replied
