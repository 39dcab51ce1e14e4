use Rattle.nop_types.specs.Logs.{Trimmed}
use Rattle.replica_rows.specs.Rows.{view_change_request, take_change, view_change}
use Rattle.replica_rows.proofs.Running.{on_ok, does_then}
use Rattle.replica_rows.proofs.member.Member.view_change.Goals as goal

pub returns : goal.returns
unfolding view_change
returns g c =
    let m = g.H.Host.meaning in
    on_ok c.take_change.result _ _
    (does_then g.H.Host c.args.self.now c.view_change_request.new.self _ (view_change_request m Trimmed c.args.view)
    (take_change m Trimmed c.args.view c.args.change) c.in_ok-view_change_request.ensures)
    c.take_change.ensures
