use Rattle.observer.proofs.Positions.{positions_rise}
use Rattle.observer.proofs.laws.positions_rise.Goals as goal

pub returns : goal.returns
returns g c = λ m. positions_rise m
