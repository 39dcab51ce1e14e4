use Rattle.network_laws.proofs.Own.{arrive_keeps_number, arrive_sends_own}
use Rattle.network_laws.proofs.laws.rows_send_under_their_number.Goals as goal

pub returns-clause-number : goal.returns-clause-number
returns-clause-number g c = λ m. arrive_keeps_number m

pub returns-clause-sends : goal.returns-clause-sends
returns-clause-sends g c = λ m. arrive_sends_own m
