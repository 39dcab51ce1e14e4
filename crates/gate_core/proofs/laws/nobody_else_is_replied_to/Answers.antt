use Rattle.gate_core.specs.Gates.{opening}
use Rattle.gate_core.specs.Runs.{after}
use Rattle.gate_core.proofs.Served.{silent_from}
use Rattle.gate_core.proofs.laws.nobody_else_is_replied_to.Goals as goal

pub returns : goal.returns
returns c = λ config first count watch near before later user. silent_from user later (after (opening config first count watch near) before)
