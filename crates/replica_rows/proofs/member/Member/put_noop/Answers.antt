use Rattle.std.proofs.Common.{ap, arith}
use Rattle.nop_types.specs.Logs.{Trimmed}
use Rattle.replica_rows.proofs.Running.{noop_stays, noop_writes, noop_runs}
use Rattle.replica_rows.proofs.member.Member.put_noop.Goals as goal

pub returns-then-slot-sync_point-clause-state : goal.returns-then-slot-sync_point-clause-state
returns-then-slot-sync_point-clause-state g c =
    noop_stays Trimmed c.args.self.now.state c.args.slot (omega (arith, c.if-slot-sync_point.true, c.sync_point-sync_point.ensures))

pub go_back-requires-clause-kept : goal.go_back-requires-clause-kept
go_back-requires-clause-kept g c = omega (arith, c.requires.runs.within.points, c.sync_point-sync_point.ensures)

pub returns-clause-state : goal.returns-clause-state
returns-clause-state g c =
    noop_writes Trimmed c.args.self.now.state c.go_back.new.self.state _ c.args.slot c.go_back.ensures.state
    (ap (λ l. record c.go_back.new.self.state { log = l }) c.put_noop.ensures)
    (omega (arith, c.if-slot-sync_point.false, c.sync_point-sync_point.ensures))

pub returns-clause-runs : goal.returns-clause-runs
returns-clause-runs g c =
    let point = ap (λ s. s.sync.sync_point) c.go_back.ensures.state in
    let slot = c.sync_point-sync_point.ensures in
    noop_runs g.H.Host c.go_back.new.self.state _ _ c.args.slot (ap (λ l. record c.go_back.new.self.state { log = l }) c.put_noop.ensures)
    c.go_back.ensures.runs (omega (arith, c.go_back.ensures.behind, slot, point)) (omega (arith, c.if-slot-sync_point.false, slot, point))
