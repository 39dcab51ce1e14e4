use Rattle.network_laws.proofs.InRanges.{arrive_stays, opens_in_ranges}
use Rattle.network_laws.proofs.laws.rows_stay_in_ranges.Goals as goal

pub returns-clause-opens : goal.returns-clause-opens
returns-clause-opens g c = opens_in_ranges

pub returns-clause-stays : goal.returns-clause-stays
returns-clause-stays g c = λ m k bounds. arrive_stays m k bounds
