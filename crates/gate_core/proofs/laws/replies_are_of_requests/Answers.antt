use Rattle.gate_core.proofs.Served.{served_from}
use Rattle.gate_core.proofs.laws.replies_are_of_requests.Goals as goal

pub returns : goal.returns
returns c = served_from
