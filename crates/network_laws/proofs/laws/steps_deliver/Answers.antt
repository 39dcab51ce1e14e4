use Rattle.network_laws.proofs.Steps.{step_delivers}
use Rattle.network_laws.proofs.laws.steps_deliver.Goals as goal

pub returns : goal.returns
returns g c = λ m bounds. step_delivers m bounds
