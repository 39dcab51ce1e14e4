use Rattle.nop_types.specs.Checkpoints.{KeepsTo}
use Rattle.trimming.proofs.Bounds.{trimmed_keep_bounds}
use Rattle.trimming.proofs.checkpoint_laws.trimmed_logs_keep_bounds.Goals as goal

pub returns : goal.returns
returns g c =
    let keeps : KeepsTo g.H.Host.meaning g.H.Host.is_sound = search (g.met.H.Host) in
    trimmed_keep_bounds g.H.Host.meaning g.H.Host.is_sound keeps
