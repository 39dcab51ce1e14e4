use Rattle.gate_core.specs.Gates.{opening}
use Rattle.gate_core.proofs.WatchTurns.{watch_after}
use Rattle.gate_core.proofs.laws.the_watch_takes_its_turns.Goals as goal

pub returns : goal.returns
returns c = λ config first count watch near es. watch_after es (opening config first count watch near)
