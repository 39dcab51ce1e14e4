use Rattle.admission.proofs.Admitted.{admitted_by_most}
use Rattle.admission.proofs.laws.admitted_by_most.Goals as goal

pub returns : goal.returns
returns c = admitted_by_most
