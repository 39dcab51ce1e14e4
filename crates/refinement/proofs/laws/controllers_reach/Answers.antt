use Rattle.refinement.proofs.Controllers.{controllers_reach}
use Rattle.refinement.proofs.laws.controllers_reach.Goals as goal

pub returns : goal.returns
returns g c = controllers_reach
