use Rattle.execution_laws.proofs.Results.{has_result_unless_stale, stale_has_no_result}
use Rattle.execution_laws.proofs.execution.has_result_unless_stale.Goals as goal

pub returns-clause-open : goal.returns-clause-open
returns-clause-open g c = has_result_unless_stale

pub returns-clause-stale : goal.returns-clause-stale
returns-clause-stale g c = stale_has_no_result
