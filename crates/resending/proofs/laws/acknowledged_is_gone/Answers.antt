use Rattle.resending.proofs.Left.{gone}
use Rattle.resending.proofs.laws.acknowledged_is_gone.Goals as goal

pub returns : goal.returns
returns c = gone
