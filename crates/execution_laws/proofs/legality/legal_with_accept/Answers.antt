use Rattle.execution_laws.proofs.Legal.{legal_with_accept}
use Rattle.execution_laws.proofs.legality.legal_with_accept.Goals as goal

pub returns : goal.returns
returns g c = legal_with_accept
