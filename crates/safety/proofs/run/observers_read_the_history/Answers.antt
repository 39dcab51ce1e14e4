use Rattle.nop_types.specs.Checkpoints.{KeepsTo}
use Rattle.safety.proofs.Whole.{observers_read_the_history}
use Rattle.safety.proofs.run.observers_read_the_history.Goals as goal

pub returns : goal.returns
returns g c =
    let keeps : KeepsTo g.H.Host.meaning g.H.Host.is_sound = search (g.met.H.Host) in
    observers_read_the_history g.H.Host.meaning g.H.Host.is_sound keeps
