use Rattle.execution_laws.proofs.Results.{results_are_equal}
use Rattle.execution_laws.proofs.execution.results_are_equal.Goals as goal

pub returns : goal.returns
returns g c = results_are_equal
