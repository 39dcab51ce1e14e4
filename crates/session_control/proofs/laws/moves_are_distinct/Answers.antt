use Rattle.session_control.proofs.Rising.{moves_apart, one_sequencer, moves_later}
use Rattle.session_control.proofs.laws.moves_are_distinct.Goals as goal

pub returns-clause-apart : goal.returns-clause-apart
returns-clause-apart c = moves_apart

pub returns-clause-one_sequencer : goal.returns-clause-one_sequencer
returns-clause-one_sequencer c = one_sequencer

pub returns-clause-later : goal.returns-clause-later
returns-clause-later c = moves_later
