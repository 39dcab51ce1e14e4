use Rattle.nop_types.specs.Checkpoints.{KeepsTo}
use Rattle.read_laws.proofs.Runs.{runs_read_right}
use Rattle.read_laws.proofs.laws.runs_read_right.Goals as goal

pub returns : goal.returns
returns g c =
    let keeps : KeepsTo g.H.Host.meaning g.H.Host.is_sound = search (g.met.H.Host) in
    runs_read_right g.H.Host.meaning g.H.Host.is_sound keeps
