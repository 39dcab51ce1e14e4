use Rattle.protocol_sync.proofs.Opening.{opening_is_synced}
use Rattle.protocol_sync.proofs.laws.opening_is_synced.Goals as goal

pub returns : goal.returns
returns c = opening_is_synced
