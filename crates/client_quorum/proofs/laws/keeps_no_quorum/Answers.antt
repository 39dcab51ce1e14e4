use Rattle.client_quorum.proofs.Short.{keeps_no_quorum}
use Rattle.client_quorum.proofs.laws.keeps_no_quorum.Goals as goal

pub returns : goal.returns
returns c = keeps_no_quorum
