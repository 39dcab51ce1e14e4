use Rattle.gate_core.specs.Gates.{opening}
use Rattle.gate_core.proofs.Desks.{heard_then}
use Rattle.gate_core.proofs.laws.hears_what_the_desk_tells.Goals as goal

pub returns : goal.returns
returns c = λ config first count watch near before later user. heard_then user before later (opening config first count watch near)
