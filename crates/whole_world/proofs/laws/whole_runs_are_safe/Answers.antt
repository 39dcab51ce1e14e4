use Rattle.whole_world.proofs.Safe.{whole_runs_are_safe}
use Rattle.whole_world.proofs.laws.whole_runs_are_safe.Goals as goal

pub returns : goal.returns
returns g c = λ m. whole_runs_are_safe m
