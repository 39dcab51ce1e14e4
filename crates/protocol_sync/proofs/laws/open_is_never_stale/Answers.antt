use Rattle.protocol_sync.proofs.Concluding.{open_is_never_stale}
use Rattle.protocol_sync.proofs.laws.open_is_never_stale.Goals as goal

pub returns : goal.returns
returns g c = open_is_never_stale
