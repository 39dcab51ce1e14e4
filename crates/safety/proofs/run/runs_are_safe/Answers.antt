use Rattle.nop_types.specs.Checkpoints.{KeepsTo}
use Rattle.safety.proofs.Whole.{runs_are_safe}
use Rattle.safety.proofs.run.runs_are_safe.Goals as goal

pub returns : goal.returns
returns g c =
    let keeps : KeepsTo g.H.Host.meaning g.H.Host.is_sound = search (g.met.H.Host) in
    runs_are_safe g.H.Host.meaning g.H.Host.is_sound keeps
