use Rattle.std.proofs.Common.{true, refl, sym, ◌∙◌, arith}
use Rattle.nop_types.specs.Logs.{Trimmed}
use Rattle.replica_state.specs.Moves.{hear, fill, drain}
use Rattle.replica_state.specs.Sends.{then_do}
use Rattle.replica_rows.specs.Rows.{found}
use Rattle.replica_rows.proofs.Branches.{fills}
use Rattle.replica_rows.proofs.Running.{on_ok, heard_runs, does_of, does_then}
use Rattle.replica_rows.proofs.member.Member.found.Goals as goal

pub fill-requires-clause-runs : goal.fill-requires-clause-runs
fill-requires-clause-runs g c = heard_runs g.H.Host c.args.self.now.state c.args.self.now.executor true c.requires.runs

pub returns : goal.returns
returns g c =
    let m = g.H.Host.meaning in
    let old = c.args.self.now in
    let heard = record old { state = hear old.state } in
    on_ok c.drain.result _ _
    (λ drained. does_of g.H.Host old heard _ (λ s. then_do (fill m Trimmed s c.args.request) (drain m Trimmed))
    (found m Trimmed c.args.slot c.args.request) refl
    (sym (fills m Trimmed old.state c.args.slot c.args.request (omega (arith, c.len.ensures.len))
    (sym c.may_append.ensures ∙ c.if-not-may_append.false)))
    (does_then g.H.Host heard c.fill.new.self _ (λ s. fill m Trimmed s c.args.request) (drain m Trimmed) c.in_ok-fill.ensures drained))
    c.drain.ensures
