use Rattle.refinement.proofs.Sequencers.{sequencers_reach}
use Rattle.refinement.proofs.laws.sequencers_reach.Goals as goal

pub returns : goal.returns
returns g c = sequencers_reach
