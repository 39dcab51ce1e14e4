use Rattle.protocol.proofs.Worked.{session_run_ends}
use Rattle.protocol.proofs.examples.session_run.Goals as goal

pub returns : goal.returns
returns g c = session_run_ends
