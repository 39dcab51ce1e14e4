use Rattle.observer.proofs.Rising.{next_rises}
use Rattle.observer.proofs.laws.positions_never_fall.Goals as goal

pub returns : goal.returns
returns g c = λ m. next_rises m
