use Rattle.std.proofs.Common.{add-one}
use Rattle.fronts.proofs.Fronts.{front_passes}
use Rattle.fronts.proofs.laws.front_passes.Goals as goal

pub returns : goal.returns
returns g c m lines k front is_front here = rw (add-one k) (front_passes m lines k front is_front here)
