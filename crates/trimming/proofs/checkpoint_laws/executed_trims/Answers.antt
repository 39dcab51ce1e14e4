use Rattle.nop_types.specs.Checkpoints.{KeepsTo}
use Rattle.trimming.proofs.Executions.{executed_trims}
use Rattle.trimming.proofs.checkpoint_laws.executed_trims.Goals as goal

pub returns : goal.returns
returns g c =
    let keeps : KeepsTo g.H.Host.meaning g.H.Host.is_sound = search (g.met.H.Host) in executed_trims g.H.Host.meaning g.H.Host.is_sound keeps
