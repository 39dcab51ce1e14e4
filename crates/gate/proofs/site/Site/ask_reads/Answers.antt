use Rattle.gate.proofs.Running.{ended_then, ran_same, ran_then}
use Rattle.gate.proofs.site.Site.ask_reads.Goals as goal

pub loop-core-init : goal.loop-core-init
loop-core-init g c =
    ran_same _

pub loop-core-preserved : goal.loop-core-preserved
loop-core-preserved g c =
    ran_then _ _ _ c.loop-core.invariant c.in_default.ensures

pub returns-in-Err : goal.returns-in-Err
returns-in-Err g c =
    ended_then c.in-Err.e _ _ _ c.loop-core.invariant c.in-Err.ensures
