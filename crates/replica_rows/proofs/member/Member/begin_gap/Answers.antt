use Rattle.std.proofs.Common.{sym, arith}
use Rattle.nop_types.specs.Logs.{Trimmed}
use Rattle.replica_state.specs.Moves.{open_gap, drain}
use Rattle.replica_state.specs.Sends.{then_do}
use Rattle.replica_rows.specs.Rows.{begin_gap}
use Rattle.replica_rows.proofs.Branches.{begins_gap}
use Rattle.replica_rows.proofs.Running.{on_ok, does_as, does_then}
use Rattle.replica_rows.proofs.member.Member.begin_gap.Goals as goal

pub returns : goal.returns
returns g c =
    let m = g.H.Host.meaning in
    let old = c.args.self.now in
    on_ok c.drain.result _ _
    (λ drained. does_as g.H.Host old _ (λ s. then_do (open_gap Trimmed s) (drain m Trimmed)) (begin_gap m Trimmed)
    (sym (begins_gap m Trimmed old.state (omega arith)))
    (does_then g.H.Host old c.open_gap.new.self _ (open_gap Trimmed) (drain m Trimmed) c.in_ok-open_gap.ensures drained))
    c.drain.ensures
