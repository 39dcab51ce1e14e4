use Rattle.desk.specs.Desks.{opening}
use Rattle.desk.specs.Runs.{after}
use Rattle.desk.proofs.Runs.{untold_after}
use Rattle.desk.proofs.laws.tells_nothing_to_who_left.Goals as goal

pub returns : goal.returns
returns c = λ config first count before later t g. untold_after (after (opening config first count) before) t later g
