use Rattle.protocol.proofs.Runs.{moves_keep}
use Rattle.protocol.proofs.laws.moves_keep.Goals as goal

pub returns : goal.returns
returns g c = moves_keep
