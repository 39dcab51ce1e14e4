use Rattle.client_quorum.proofs.Waits.{waiting_in_order, waiting_ends}
use Rattle.client_quorum.proofs.laws.submits_waiting_ops_in_order.Goals as goal

pub returns-clause-alone : goal.returns-clause-alone
returns-clause-alone c = waiting_in_order

pub returns-clause-any : goal.returns-clause-any
returns-clause-any c = waiting_ends
