use Rattle.gate.proofs.Running.{runs_then}
use Rattle.gate.proofs.site.Site.take_from_outside.Goals as goal

pub returns-in-Ok : goal.returns-in-Ok
returns-in-Ok g c =
    runs_then c.take_from_users.result _ _ _ c.in-Ok.ensures c.take_from_users.ensures
