use Rattle.nop_types.specs.Checkpoints.{KeepsTo}
use Rattle.trimming.proofs.Executions.{has_checkpoint, checkpoint_loads, beginning_is_exec}
use Rattle.trimming.proofs.checkpoint_laws.checkpoints_load.Goals as goal

pub returns-clause-there : goal.returns-clause-there
returns-clause-there g c = has_checkpoint g.H.Host.meaning

pub returns-clause-loads : goal.returns-clause-loads
returns-clause-loads g c =
    let keeps : KeepsTo g.H.Host.meaning g.H.Host.is_sound = search (g.met.H.Host) in checkpoint_loads g.H.Host.meaning g.H.Host.is_sound keeps

pub returns-clause-exec : goal.returns-clause-exec
returns-clause-exec g c =
    let keeps : KeepsTo g.H.Host.meaning g.H.Host.is_sound = search (g.met.H.Host) in beginning_is_exec g.H.Host.meaning g.H.Host.is_sound keeps
