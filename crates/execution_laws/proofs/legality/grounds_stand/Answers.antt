use Rattle.execution_laws.proofs.Legal.{grounds_stand}
use Rattle.execution_laws.proofs.legality.grounds_stand.Goals as goal

pub returns : goal.returns
returns g c = grounds_stand
