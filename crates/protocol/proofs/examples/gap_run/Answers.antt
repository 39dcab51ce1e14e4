use Rattle.protocol.proofs.Worked.{gap_run_ends}
use Rattle.protocol.proofs.examples.gap_run.Goals as goal

pub returns : goal.returns
returns g c = gap_run_ends
