use Rattle.fronts.proofs.Fronts.{front_places}
use Rattle.fronts.proofs.laws.front_places.Goals as goal

pub returns : goal.returns
returns g c = front_places
