use Rattle.replica_rows.proofs.Counting.{arrive_sends_few, arrive_keeps_config}
use Rattle.replica_rows.proofs.laws.rows_send_few_messages.Goals as goal

pub returns-clause-few : goal.returns-clause-few
returns-clause-few g c = λ m k. arrive_sends_few m k

pub returns-clause-config : goal.returns-clause-config
returns-clause-config g c = λ m k. arrive_keeps_config m k
