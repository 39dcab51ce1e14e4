use Rattle.execution_laws.proofs.Ids.{near_in_log}
use Rattle.execution_laws.proofs.Windows.{near_is_not_stale, far_is_stale}
use Rattle.execution_laws.proofs.execution.open_is_not_stale.Goals as goal

pub returns-clause-near : goal.returns-clause-near
returns-clause-near c = near_is_not_stale

pub returns-clause-in_log : goal.returns-clause-in_log
returns-clause-in_log c = near_in_log

pub returns-clause-far : goal.returns-clause-far
returns-clause-far c = far_is_stale
