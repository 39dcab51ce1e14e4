use Rattle.std.proofs.Common.{true, refl, sym, ◌∙◌, arith}
use Rattle.nop_types.specs.Logs.{Trimmed}
use Rattle.replica_state.specs.Moves.{hear, write_gap, add_gap, drain}
use Rattle.replica_state.specs.Sends.{then_do}
use Rattle.replica_rows.specs.Rows.{gap_commit}
use Rattle.replica_rows.proofs.Branches.{writes_gap, adds_gap}
use Rattle.replica_rows.proofs.Running.{on_ok, heard_runs, does_of, does_then}
use Rattle.replica_rows.proofs.member.Member.gap_commit.Goals as goal

pub write_gap-requires-clause-runs : goal.write_gap-requires-clause-runs
write_gap-requires-clause-runs g c = heard_runs g.H.Host c.args.self.now.state c.args.self.now.executor true c.requires.runs

pub returns-then-slot-len : goal.returns-then-slot-len
returns-then-slot-len g c =
    let m = g.H.Host.meaning in
    let old = c.args.self.now in
    let heard = record old { state = hear old.state } in
    on_ok c.drain.result _ _
    (λ drained. does_of g.H.Host old heard _ (λ s. then_do (write_gap Trimmed s c.args.slot) (drain m Trimmed)) (gap_commit m Trimmed c.args.slot)
    refl (sym (writes_gap m Trimmed old.state c.args.slot (omega (arith, c.if-slot-len.true, c.len-len.ensures.len))))
    (does_then g.H.Host heard c.write_gap.new.self _ (λ s. write_gap Trimmed s c.args.slot) (drain m Trimmed) c.in_ok-write_gap.ensures
    drained))
    c.drain.ensures

pub add_gap-requires-clause-runs : goal.add_gap-requires-clause-runs
add_gap-requires-clause-runs g c = heard_runs g.H.Host c.args.self.now.state c.args.self.now.executor true c.requires.runs

pub returns : goal.returns
returns g c =
    let m = g.H.Host.meaning in
    let old = c.args.self.now in
    let heard = record old { state = hear old.state } in
    on_ok c.drain-2.result _ _
    (λ drained. does_of g.H.Host old heard _ (λ s. then_do (add_gap Trimmed s) (drain m Trimmed)) (gap_commit m Trimmed c.args.slot) refl
    (sym (adds_gap m Trimmed old.state c.args.slot (omega (arith, c.len-len.ensures.len))
    (sym c.may_append.ensures ∙ c.if-not-may_append.false)))
    (does_then g.H.Host heard c.add_gap.new.self _ (add_gap Trimmed) (drain m Trimmed) c.in_ok-add_gap.ensures drained))
    c.drain-2.ensures
