use Rattle.protocol_sync.proofs.Gathered.{starts_begin_with_synced, starts_reach_their_points}
use Rattle.protocol_sync.proofs.laws.starts_begin_with_synchronised.Goals as goal

pub returns-clause-begin : goal.returns-clause-begin
returns-clause-begin g c m = starts_begin_with_synced m

pub returns-clause-point : goal.returns-clause-point
returns-clause-point g c m = starts_reach_their_points m
