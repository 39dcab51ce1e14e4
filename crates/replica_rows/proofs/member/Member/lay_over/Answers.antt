use Rattle.std.proofs.Common.{◌≤◌, ◌+◌, ◌-◌, ap, sym, subst, ◌∙◌, arith}
use Rattle.std.specs.Prelude.{IsSome}
use Rattle.nop_types.specs.CheckpointedLogs.{loads}
use Rattle.nop_types.specs.declared.limits.TheConstants.{NUMBER_END}
use Rattle.nop_types.specs.Logs.{Trimmed, length_of}
use Rattle.replica_state.specs.Moves.{overlaid}
use Rattle.replica_state.specs.State.{PointsMeet}
use Rattle.replica_rows.proofs.Running.{on_ok, always_ok, overlaid_within, further_begun, further_loads, overlaid_runs, overlaid_near}
use Rattle.replica_rows.proofs.member.Member.lay_over.Goals as goal

pub returns-then-sync_point-synced-clause-runs : goal.returns-then-sync_point-synced-clause-runs
returns-then-sync_point-synced-clause-runs g c =
    let runs = c.requires.runs in
    on_ok c.restart.result _ _
    (overlaid_runs g.H.Host c.args.self.now.state c.lay_over.new.self c.restart.new.self c.args.log c.in_ok-lay_over.ensures.ok
    runs.within runs.loads c.requires.log_fits c.requires.loads (omega (arith, c.requires.within, c.requires.appended)))
    c.restart.ensures.run

pub returns-clause-runs : goal.returns-clause-runs
returns-clause-runs g c =
    let t = c.go_back.new.self.state in
    let state = c.go_back.ensures.state in
    let point = ap (λ s. s.log.sync_point) state in
    let synced = c.sync_point-synced.ensures in
    let high : t.next + (length_of Trimmed c.args.log - length_of Trimmed t.log) ≤ NUMBER_END =
    subst (λ s. s.next + (length_of Trimmed c.args.log - length_of Trimmed s.log) ≤ NUMBER_END) (sym state)
    (omega (arith, c.requires.within, c.requires.appended)) in
    on_ok c.lay_over-2.result _ _
    (λ is. overlaid_near g.H.Host t _ c.go_back.new.self.executor c.args.log is c.go_back.ensures.runs c.requires.log_fits c.requires.loads
    high (omega (arith, c.if-sync_point-synced.false, c.sync_point.ensures, synced, point))
    (omega (arith, c.go_back.ensures.behind, synced, point)))
    c.lay_over-2.ensures.ok

pub restart-requires-clause-some : goal.restart-requires-clause-some
restart-requires-clause-some g c =
    subst (λ t. IsSome t.log.checkpoint) (sym c.in_ok-lay_over.ensures.ok)
    (further_begun c.args.log c.args.self.now.state.log c.requires.log_fits
    (omega (arith, c.if-sync_point-synced.true, c.sync_point.ensures, c.sync_point-synced.ensures)))

pub restart-requires-clause-loads : goal.restart-requires-clause-loads
restart-requires-clause-loads g c =
    ap (λ t. loads g.H.Host.meaning t.log) c.in_ok-lay_over.ensures.ok
    ∙ further_loads g.H.Host c.args.log c.args.self.now.state.log c.requires.loads c.requires.runs.loads.own

pub go_back-requires-clause-kept : goal.go_back-requires-clause-kept
go_back-requires-clause-kept g c = omega (arith, c.sync_point-synced.ensures)

pub lay_over-requires-2-clause-appended : goal.lay_over-requires-2-clause-appended
lay_over-requires-2-clause-appended g c =
    c.requires.appended ∙ ap (λ t. length_of Trimmed c.args.log - length_of Trimmed t.log) (sym c.go_back.ensures.state)

pub lay_over-requires-2-clause-within : goal.lay_over-requires-2-clause-within
lay_over-requires-2-clause-within g c =
    subst (λ t. t.next + c.args.appended ≤ NUMBER_END) (sym c.go_back.ensures.state) c.requires.within

pub returns-then-sync_point-synced-clause-state : goal.returns-then-sync_point-synced-clause-state
returns-then-sync_point-synced-clause-state g c = always_ok c.restart.result _ c.in_ok-lay_over.ensures.ok

pub returns-then-sync_point-synced-clause-behind : goal.returns-then-sync_point-synced-clause-behind
returns-then-sync_point-synced-clause-behind g c =
    let s = c.args.self.now.state in
    let within =
    overlaid_within Trimmed s c.args.log c.requires.runs.within c.requires.log_fits (omega (arith, c.requires.within, c.requires.appended)) in
    let points = subst PointsMeet (sym c.in_ok-lay_over.ensures.ok) within.points in
    on_ok c.restart.result _ _ (λ at. omega (arith, at, points)) c.restart.ensures.reached

pub returns-clause-state : goal.returns-clause-state
returns-clause-state g c =
    on_ok c.lay_over-2.result _ _ (λ is. is ∙ ap (λ t. overlaid Trimmed t c.args.log) c.go_back.ensures.state) c.lay_over-2.ensures.ok

pub returns-clause-behind : goal.returns-clause-behind
returns-clause-behind g c =
    let points = c.go_back.ensures.runs.within.points in
    let same = ap (λ t. t.log.sync_point) c.go_back.ensures.state in
    on_ok c.lay_over-2.result _ _
    (λ is. let point = ap (λ t. t.sync.sync_point) is in
    omega (arith, c.go_back.ensures.behind, c.sync_point-synced.ensures, same, point, points))
    c.lay_over-2.ensures.ok
