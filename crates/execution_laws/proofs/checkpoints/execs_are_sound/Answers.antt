use Rattle.nop_types.specs.Checkpoints.{KeepsTo}
use Rattle.execution_laws.proofs.Saving.{execs_are_sound}
use Rattle.execution_laws.proofs.checkpoints.execs_are_sound.Goals as goal

pub returns : goal.returns
returns g c =
    let keeps : KeepsTo g.H.Host.meaning g.H.Host.is_sound = search (g.met.H.Host) in execs_are_sound g.H.Host.meaning g.H.Host.is_sound keeps
