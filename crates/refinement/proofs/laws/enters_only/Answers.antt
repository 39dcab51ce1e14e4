use Rattle.refinement.proofs.NewSessions.{enters_only}
use Rattle.refinement.proofs.laws.enters_only.Goals as goal

pub returns : goal.returns
returns g c = λ m. enters_only m
