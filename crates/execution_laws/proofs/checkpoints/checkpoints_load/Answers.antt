use Rattle.nop_types.specs.Checkpoints.{KeepsTo}
use Rattle.execution_laws.proofs.Saving.{checkpoint_loads, checkpoints_load}
use Rattle.execution_laws.proofs.checkpoints.checkpoints_load.Goals as goal

pub returns-clause-one : goal.returns-clause-one
returns-clause-one g c =
    let keeps : KeepsTo g.H.Host.meaning g.H.Host.is_sound = search (g.met.H.Host) in checkpoint_loads g.H.Host.meaning g.H.Host.is_sound keeps

pub returns-clause-of_log : goal.returns-clause-of_log
returns-clause-of_log g c =
    let keeps : KeepsTo g.H.Host.meaning g.H.Host.is_sound = search (g.met.H.Host) in checkpoints_load g.H.Host.meaning g.H.Host.is_sound keeps
