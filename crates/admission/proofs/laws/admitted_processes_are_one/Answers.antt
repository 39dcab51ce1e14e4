use Rattle.admission.proofs.Guard.{processes_are_one}
use Rattle.admission.proofs.laws.admitted_processes_are_one.Goals as goal

pub returns : goal.returns
returns c = processes_are_one
