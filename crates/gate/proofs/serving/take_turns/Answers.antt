use Rattle.gate.proofs.Running.{ended_then, ran_same, ran_then}
use Rattle.gate.proofs.serving.take_turns.Goals as goal

pub loop-init : goal.loop-init
loop-init g c =
    ran_same _

pub loop-preserved : goal.loop-preserved
loop-preserved g c =
    ran_then _ _ _ c.loop.invariant c.in-Ok.ensures

pub returns-in-Err : goal.returns-in-Err
returns-in-Err g c =
    ended_then c.in-Err.e _ _ _ c.loop.invariant c.in-Err.ensures
