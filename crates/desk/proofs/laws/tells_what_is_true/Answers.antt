use Rattle.desk.proofs.Runs.{told_true}
use Rattle.desk.proofs.laws.tells_what_is_true.Goals as goal

pub returns : goal.returns
returns c = told_true
