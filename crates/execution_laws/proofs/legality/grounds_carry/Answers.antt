use Rattle.execution_laws.proofs.Legal.{grounds_carry}
use Rattle.execution_laws.proofs.legality.grounds_carry.Goals as goal

pub returns : goal.returns
returns g c = grounds_carry
