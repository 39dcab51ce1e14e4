use Rattle.nop_types.specs.Logs.{Trimmed}
use Rattle.replica_state.specs.Moves.{drain}
use Rattle.replica_rows.specs.Rows.{enter_view}
use Rattle.replica_rows.proofs.Running.{on_ok, does_then}
use Rattle.replica_rows.proofs.member.Member.enter_and_drain.Goals as goal

pub returns : goal.returns
returns g c =
    let m = g.H.Host.meaning in
    on_ok c.drain.result _ _
    (does_then g.H.Host c.args.self.now c.enter_view.new.self _ (enter_view m Trimmed c.args.view) (drain m Trimmed)
    c.in_ok-enter_view.ensures)
    c.drain.ensures
