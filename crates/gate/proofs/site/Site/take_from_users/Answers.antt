use Rattle.gate.proofs.Running.{runs_then}
use Rattle.gate.proofs.site.Site.take_from_users.Goals as goal

pub returns-after-received-2 : goal.returns-after-received-2
returns-after-received-2 g c =
    runs_then c.read_after.result _ _ _ c.in-Ok.ensures c.read_after.ensures
