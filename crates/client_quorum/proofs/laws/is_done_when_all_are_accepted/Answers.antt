use Rattle.client_quorum.proofs.Counts.{all_accepted, some_open}
use Rattle.client_quorum.proofs.laws.is_done_when_all_are_accepted.Goals as goal

pub returns-clause-done : goal.returns-clause-done
returns-clause-done c = all_accepted

pub returns-clause-not_done : goal.returns-clause-not_done
returns-clause-not_done c = some_open
