use Rattle.session_control.proofs.Installs.{installs_of_last}
use Rattle.session_control.proofs.laws.installs_are_of_last_move.Goals as goal

pub returns : goal.returns
returns c = installs_of_last
