use Rattle.gate.proofs.Running.{ended_then, ran_same, ran_then}
use Rattle.gate.proofs.site.Site.take_all_datagrams.Goals as goal

pub loop-place-init : goal.loop-place-init
loop-place-init g c =
    ran_same _

pub loop-place-preserved : goal.loop-place-preserved
loop-place-preserved g c =
    ran_then _ _ _ c.loop-place.invariant c.in-Ok.ensures

pub returns-in-Err : goal.returns-in-Err
returns-in-Err g c =
    ended_then c.in-Err.e _ _ _ c.loop-place.invariant c.in-Err.ensures
