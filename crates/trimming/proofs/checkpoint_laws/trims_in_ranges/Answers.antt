use Rattle.nop_types.specs.Checkpoints.{KeepsTo}
use Rattle.trimming.proofs.Bounds.{trimmed_is_in}
use Rattle.trimming.proofs.checkpoint_laws.trims_in_ranges.Goals as goal

pub returns : goal.returns
returns g c =
    let keeps : KeepsTo g.H.Host.meaning g.H.Host.is_sound = search (g.met.H.Host) in
    trimmed_is_in g.H.Host.meaning g.H.Host.is_sound keeps
