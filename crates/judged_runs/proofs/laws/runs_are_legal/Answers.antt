use Rattle.nop_types.specs.Checkpoints.{KeepsTo}
use Rattle.judged_runs.proofs.Passing.{runs_are_legal}
use Rattle.judged_runs.proofs.laws.runs_are_legal.Goals as goal

pub returns : goal.returns
returns g c =
    let keeps : KeepsTo g.H.Host.meaning g.H.Host.is_sound = search (g.met.H.Host) in
    runs_are_legal g.H.Host.meaning g.H.Host.is_sound keeps
