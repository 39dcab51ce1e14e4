use Rattle.protocol_sync.proofs.Sounding.{runs_are_safe}
use Rattle.protocol_sync.proofs.laws.runs_are_safe.Goals as goal

pub returns : goal.returns
returns g c = runs_are_safe
