use Rattle.refinement.proofs.Arriving.{replicas_reach}
use Rattle.refinement.proofs.laws.replicas_reach.Goals as goal

pub returns : goal.returns
returns g c = replicas_reach
