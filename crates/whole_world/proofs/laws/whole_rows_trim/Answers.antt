use Rattle.nop_types.specs.Checkpoints.{KeepsTo}
use Rattle.execution_laws.proofs.Shortness.{result_fits}
use Rattle.whole_world.proofs.TrimmedRows.{rows_trim_where}
use Rattle.whole_world.proofs.Trimming.{whole_can_trim}
use Rattle.whole_world.proofs.laws.whole_rows_trim.Goals as goal

pub returns : goal.returns
returns g c config es is fit =
    let keeps : KeepsTo g.H.Host.meaning g.H.Host.is_sound = search (g.met.H.Host) in
    let short = result_fits g.H.Host.meaning g.H.Host.is_sound keeps.opens keeps.stays keeps.short in
    rows_trim_where g.H.Host.meaning g.H.Host.is_sound keeps _ (whole_can_trim g.H.Host.meaning short config es is fit)
