use Rattle.protocol_sync.proofs.Runs.{syncs_keep}
use Rattle.protocol_sync.proofs.laws.syncs_keep.Goals as goal

pub returns : goal.returns
returns g c = syncs_keep
