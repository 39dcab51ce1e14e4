use Rattle.gate_core.specs.Gates.{opening}
use Rattle.gate_core.proofs.WatchTurns.{near_observer_after}
use Rattle.gate_core.proofs.laws.the_near_observer_hears.Goals as goal

pub returns : goal.returns
returns c = λ config first count watch near es. near_observer_after es (opening config first count watch near)
