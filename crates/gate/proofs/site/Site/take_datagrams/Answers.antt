use Rattle.gate.proofs.Running.{ended_then, ran_same, ran_then}
use Rattle.gate.proofs.site.Site.take_datagrams.Goals as goal

pub loop-init : goal.loop-init
loop-init g c =
    ran_same _

pub loop-preserved : goal.loop-preserved
loop-preserved g c =
    ran_then _ _ _ c.loop.invariant c.in-Ok.ensures

pub returns-in-Err : goal.returns-in-Err
returns-in-Err g c =
    ended_then c.in-Err.e _ _ _ c.loop.invariant c.in-Err.ensures

pub returns-then-not-here : goal.returns-then-not-here
returns-then-not-here g c =
    ran_then _ _ _ c.loop.invariant c.in-Ok.ensures

pub returns-then-not-is_polled : goal.returns-then-not-is_polled
returns-then-not-is_polled g c =
    c.loop.invariant
