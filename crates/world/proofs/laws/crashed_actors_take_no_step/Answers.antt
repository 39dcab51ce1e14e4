use Rattle.world.proofs.Idle.{crashed_takes_no_step}
use Rattle.world.proofs.laws.crashed_actors_take_no_step.Goals as goal

pub returns : goal.returns
returns g c = λ m. crashed_takes_no_step m
