use Rattle.gate_core.specs.Gates.{opening}
use Rattle.gate_core.specs.Runs.{after}
use Rattle.gate_core.proofs.Closing.{closed_after, gone_silent}
use Rattle.gate_core.proofs.Served.{none_first}
use Rattle.gate_core.proofs.laws.nothing_follows_a_close.Goals as goal

pub returns : goal.returns
returns c = λ config first count watch near before later user has.
    gone_silent user later (after (opening config first count watch near) before)
    (closed_after user before (opening config first count watch near) (λ _. none_first config first count watch near user) has)
