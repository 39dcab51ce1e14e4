use Rattle.execution_laws.proofs.Results.{has_result_where_served}
use Rattle.execution_laws.proofs.execution.has_result_where_served.Goals as goal

pub returns : goal.returns
returns g c = has_result_where_served
