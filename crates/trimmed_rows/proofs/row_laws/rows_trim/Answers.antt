use Rattle.nop_types.specs.Checkpoints.{KeepsTo}
use Rattle.trimmed_rows.proofs.Rows.{rows_trim}
use Rattle.trimmed_rows.proofs.row_laws.rows_trim.Goals as goal

pub returns : goal.returns
returns g c =
    let keeps : KeepsTo g.H.Host.meaning g.H.Host.is_sound = search (g.met.H.Host) in rows_trim g.H.Host.meaning g.H.Host.is_sound keeps
