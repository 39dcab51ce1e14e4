use Rattle.nop_types.specs.Checkpoints.{KeepsTo}
use Rattle.observer_laws.proofs.Trims.{told_trims}
use Rattle.observer_laws.proofs.laws.rows_trim.Goals as goal

pub returns : goal.returns
returns g c =
    let keeps : KeepsTo g.H.Host.meaning g.H.Host.is_sound = search (g.met.H.Host) in told_trims g.H.Host.meaning g.H.Host.is_sound keeps
