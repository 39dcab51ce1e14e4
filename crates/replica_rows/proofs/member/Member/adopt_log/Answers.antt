use Rattle.std.proofs.Common.{ap, sym, subst, ◌∙◌, arith}
use Rattle.std.specs.Prelude.{IsSome}
use Rattle.nop_types.specs.CheckpointedLogs.{loads}
use Rattle.nop_types.specs.Logs.{Trimmed}
use Rattle.replica_state.specs.Moves.{adopted}
use Rattle.replica_state.specs.State.{PointsMeet}
use Rattle.replica_rows.proofs.Running.{on_ok, always_ok, further_begun, further_loads, adopted_within, adopted_runs, adopted_near}
use Rattle.replica_rows.proofs.member.Member.adopt_log.Goals as goal

pub returns-then-sync_point-synced-clause-runs : goal.returns-then-sync_point-synced-clause-runs
returns-then-sync_point-synced-clause-runs g c =
    let runs = c.requires.runs in
    on_ok c.restart.result _ _
    (adopted_runs g.H.Host c.args.self.now.state c.adopt.new.self c.restart.new.self c.args.view c.args.next c.args.log
    c.adopt.ensures runs.within runs.loads c.requires.view c.requires.next c.requires.log_fits c.requires.loads)
    c.restart.ensures.run

pub returns-clause-runs : goal.returns-clause-runs
returns-clause-runs g c =
    let point = ap (λ s. s.log.sync_point) c.go_back.ensures.state in
    let synced = c.sync_point-synced.ensures in
    adopted_near g.H.Host c.go_back.new.self.state c.adopt-2.new.self c.go_back.new.self.executor c.args.view c.args.next c.args.log
    c.adopt-2.ensures c.go_back.ensures.runs c.requires.view c.requires.next c.requires.log_fits c.requires.loads
    (omega (arith, c.if-sync_point-synced.false, c.sync_point.ensures, synced, point))
    (omega (arith, c.go_back.ensures.behind, synced, point))

pub restart-requires-clause-some : goal.restart-requires-clause-some
restart-requires-clause-some g c =
    subst (λ t. IsSome t.log.checkpoint) (sym c.adopt.ensures)
    (further_begun c.args.log c.args.self.now.state.log c.requires.log_fits
    (omega (arith, c.if-sync_point-synced.true, c.sync_point.ensures, c.sync_point-synced.ensures)))

pub restart-requires-clause-loads : goal.restart-requires-clause-loads
restart-requires-clause-loads g c =
    ap (λ t. loads g.H.Host.meaning t.log) c.adopt.ensures
    ∙ further_loads g.H.Host c.args.log c.args.self.now.state.log c.requires.loads c.requires.runs.loads.own

pub go_back-requires-clause-kept : goal.go_back-requires-clause-kept
go_back-requires-clause-kept g c = omega (arith, c.sync_point-synced.ensures)

pub returns-then-sync_point-synced-clause-state : goal.returns-then-sync_point-synced-clause-state
returns-then-sync_point-synced-clause-state g c = always_ok c.restart.result _ c.adopt.ensures

pub returns-then-sync_point-synced-clause-behind : goal.returns-then-sync_point-synced-clause-behind
returns-then-sync_point-synced-clause-behind g c =
    let s = c.args.self.now.state in
    let within =
    adopted_within Trimmed s c.args.view c.args.next c.args.log c.requires.runs.within c.requires.view c.requires.next c.requires.log_fits in
    let points = subst PointsMeet (sym c.adopt.ensures) within.points in
    on_ok c.restart.result _ _ (λ at. omega (arith, at, points)) c.restart.ensures.reached

pub returns-clause-behind : goal.returns-clause-behind
returns-clause-behind g c =
    let point = ap (λ p. p.sync.sync_point) c.adopt-2.ensures in
    let points = c.go_back.ensures.runs.within.points in
    let same = ap (λ p. p.log.sync_point) c.go_back.ensures.state in
    omega (arith, c.go_back.ensures.behind, c.sync_point-synced.ensures, same, point, points)

pub returns-clause-state : goal.returns-clause-state
returns-clause-state g c =
    c.adopt-2.ensures ∙ ap (λ t. adopted Trimmed t c.args.view c.args.next c.args.log) c.go_back.ensures.state
