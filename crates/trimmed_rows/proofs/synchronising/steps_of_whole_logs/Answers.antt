use Rattle.trimmed_rows.proofs.Steps.{whole_steps}
use Rattle.trimmed_rows.proofs.synchronising.steps_of_whole_logs.Goals as goal

pub returns : goal.returns
returns g c m = whole_steps m
