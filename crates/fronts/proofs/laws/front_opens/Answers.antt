use Rattle.fronts.proofs.Fronts.{front_opens}
use Rattle.fronts.proofs.laws.front_opens.Goals as goal

pub returns : goal.returns
returns g c = front_opens
