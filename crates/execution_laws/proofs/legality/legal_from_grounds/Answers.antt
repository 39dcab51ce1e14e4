use Rattle.execution_laws.proofs.Legal.{legal_from_grounds}
use Rattle.execution_laws.proofs.legality.legal_from_grounds.Goals as goal

pub returns : goal.returns
returns g c = legal_from_grounds
