use Rattle.execution_laws.proofs.Steps.{repeat_is_not_executed, stale_is_not_executed}
use Rattle.execution_laws.proofs.execution.repeat_is_not_executed.Goals as goal

pub returns-clause-repeated : goal.returns-clause-repeated
returns-clause-repeated g c = repeat_is_not_executed

pub returns-clause-stale : goal.returns-clause-stale
returns-clause-stale g c = stale_is_not_executed
