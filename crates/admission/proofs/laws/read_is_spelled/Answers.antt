use Rattle.admission.proofs.Spelled.{read_is_spelled}
use Rattle.admission.proofs.laws.read_is_spelled.Goals as goal

pub returns : goal.returns
returns c = read_is_spelled
