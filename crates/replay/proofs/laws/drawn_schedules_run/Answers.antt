use Rattle.nop_types.specs.Checkpoints.{KeepsTo}
use Rattle.replay.proofs.Drawn.{drawn_runs}
use Rattle.replay.proofs.laws.drawn_schedules_run.Goals as goal

pub returns : goal.returns
returns g c =
    let keeps : KeepsTo g.H.Host.meaning g.H.Host.is_sound = search (g.met.H.Host) in
    drawn_runs g.H.Host.meaning g.H.Host.is_sound keeps
