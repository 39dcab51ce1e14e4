use Rattle.gate.proofs.Running.{ended_step, ran_step}
use Rattle.gate.proofs.site.Site.take_step.Goals as goal

pub returns-in-Ok : goal.returns-in-Ok
returns-in-Ok g c =
    λ before t. ran_step c.args.event before _ _ t c.in-Ok.ensures

pub returns-in-Err : goal.returns-in-Err
returns-in-Err g c =
    λ before t. ended_step c.args.event before _ _ t c.in-Err.ensures
