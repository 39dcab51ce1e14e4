use Rattle.session_control.proofs.Rising.{moves_rise, moves_once}
use Rattle.session_control.proofs.laws.moves_rise.Goals as goal

pub returns-clause-rising : goal.returns-clause-rising
returns-clause-rising c = moves_rise

pub returns-clause-once : goal.returns-clause-once
returns-clause-once c = moves_once
