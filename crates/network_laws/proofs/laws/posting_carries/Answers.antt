use Rattle.network_laws.proofs.Carrying.{posting_carries}
use Rattle.network_laws.proofs.laws.posting_carries.Goals as goal

pub returns : goal.returns
returns c = posting_carries
