use Rattle.whole_world.proofs.Steps.{crashed_stay}
use Rattle.whole_world.proofs.laws.crashed_replicas_stay.Goals as goal

pub returns : goal.returns
returns g c = λ m. crashed_stay m
