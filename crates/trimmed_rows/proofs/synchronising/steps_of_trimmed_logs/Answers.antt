use Rattle.nop_types.specs.Checkpoints.{KeepsTo}
use Rattle.trimmed_rows.proofs.Steps.{trimmed_steps}
use Rattle.trimmed_rows.proofs.synchronising.steps_of_trimmed_logs.Goals as goal

pub returns : goal.returns
returns g c =
    let keeps : KeepsTo g.H.Host.meaning g.H.Host.is_sound = search (g.met.H.Host) in trimmed_steps g.H.Host.meaning g.H.Host.is_sound keeps
