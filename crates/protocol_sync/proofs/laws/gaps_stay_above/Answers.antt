use Rattle.protocol_sync.proofs.Above.{gaps_open_above, gaps_stay_above, synced_is_prepared}
use Rattle.protocol_sync.proofs.laws.gaps_stay_above.Goals as goal

pub returns-clause-open : goal.returns-clause-open
returns-clause-open g c = gaps_open_above

pub returns-clause-stay : goal.returns-clause-stay
returns-clause-stay g c m = gaps_stay_above m

pub returns-clause-prepared : goal.returns-clause-prepared
returns-clause-prepared g c m = synced_is_prepared m
