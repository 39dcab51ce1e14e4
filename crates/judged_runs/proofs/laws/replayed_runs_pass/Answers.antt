use Rattle.nop_types.specs.Checkpoints.{KeepsTo}
use Rattle.judged_runs.proofs.Passing.{replayed_runs_pass}
use Rattle.judged_runs.proofs.laws.replayed_runs_pass.Goals as goal

pub returns : goal.returns
returns g c =
    let keeps : KeepsTo g.H.Host.meaning g.H.Host.is_sound = search (g.met.H.Host) in
    replayed_runs_pass g.H.Host.meaning g.H.Host.is_sound keeps
