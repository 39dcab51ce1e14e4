use Rattle.std.proofs.Common.{sym}
use Rattle.trace_rows.proofs.Fitting.{row_fits}
use Rattle.audit.proofs.progress.Progress.take_text.Goals as goal

pub take_row-requires : goal.take_row-requires
take_row-requires g c = row_fits c.args.text.now c.in-Some.row (let is = rw c.in-Some.is at c.in_ok-row.ensures in sym is)
