use Rattle.protocol_sync.proofs.Rising.{sync_points_never_fall}
use Rattle.protocol_sync.proofs.laws.sync_points_never_fall.Goals as goal

pub returns : goal.returns
returns g c = sync_points_never_fall
