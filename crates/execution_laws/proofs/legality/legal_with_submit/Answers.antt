use Rattle.execution_laws.proofs.Legal.{legal_with_submit}
use Rattle.execution_laws.proofs.legality.legal_with_submit.Goals as goal

pub returns : goal.returns
returns g c = legal_with_submit
