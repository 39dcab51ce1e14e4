use Rattle.executor.proofs.PrefixLemmas.{executed_append, executed_noop, executed_other}
use Rattle.executor.proofs.laws.execution_stays.Goals as goal

pub returns-clause-append : goal.returns-clause-append
returns-clause-append g c = executed_append

pub returns-clause-noop : goal.returns-clause-noop
returns-clause-noop g c = executed_noop

pub returns-clause-other : goal.returns-clause-other
returns-clause-other g c = executed_other
