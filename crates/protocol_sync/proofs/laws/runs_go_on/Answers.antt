use Rattle.protocol_sync.proofs.Sounding.{runs_go_on}
use Rattle.protocol_sync.proofs.laws.runs_go_on.Goals as goal

pub returns : goal.returns
returns g c = runs_go_on
