use Rattle.gate.proofs.Running.{runs_then}
use Rattle.gate.proofs.site.Site.take_turn.Goals as goal

pub returns-in-Ok : goal.returns-in-Ok
returns-in-Ok g c =
    runs_then c.tick_and_take.result _ _ _ c.in-Ok.ensures c.tick_and_take.ensures
