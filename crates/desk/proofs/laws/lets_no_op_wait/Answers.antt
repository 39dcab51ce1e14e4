use Rattle.desk.proofs.Runs.{always_busy}
use Rattle.desk.proofs.laws.lets_no_op_wait.Goals as goal

pub returns : goal.returns
returns c = always_busy
