use Rattle.network_laws.proofs.Own.{arrive_keeps_count, arrive_goes_among}
use Rattle.network_laws.proofs.laws.rows_send_within_the_configuration.Goals as goal

pub returns-clause-count : goal.returns-clause-count
returns-clause-count g c = λ m. arrive_keeps_count m

pub returns-clause-sends : goal.returns-clause-sends
returns-clause-sends g c = λ m. arrive_goes_among m
