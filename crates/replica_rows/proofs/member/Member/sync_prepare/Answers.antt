use Rattle.std.proofs.Common.{true, refl, sym, arith}
use Rattle.nop_types.specs.Logs.{Trimmed}
use Rattle.replica_state.specs.Moves.{hear, overlay, drain}
use Rattle.replica_state.specs.Sends.{then_do}
use Rattle.replica_rows.specs.Rows.{sync_prepare}
use Rattle.replica_rows.proofs.Branches.{prepares, prepares_none}
use Rattle.replica_rows.proofs.Running.{on_ok, heard_runs, does_of, does_nothing, does_then}
use Rattle.replica_rows.proofs.member.Member.sync_prepare.Goals as goal

pub overlay-requires-clause-runs : goal.overlay-requires-clause-runs
overlay-requires-clause-runs g c = heard_runs g.H.Host c.args.self.now.state c.args.self.now.executor true c.requires.runs

pub returns : goal.returns
returns g c =
    let m = g.H.Host.meaning in
    let old = c.args.self.now in
    let heard = record old { state = hear old.state } in
    on_ok c.drain.result _ _
    (λ drained. does_of g.H.Host old heard _ (λ s. then_do (overlay m Trimmed s c.args.log) (drain m Trimmed))
    (sync_prepare m Trimmed c.args.log) refl
    (sym (prepares m Trimmed old.state c.args.log (omega arith)))
    (does_then g.H.Host heard c.overlay.new.self _ (λ s. overlay m Trimmed s c.args.log) (drain m Trimmed) c.in_ok-overlay.ensures drained))
    c.drain.ensures

pub returns-then-get-appended-gt-NUMBER_END : goal.returns-then-get-appended-gt-NUMBER_END
returns-then-get-appended-gt-NUMBER_END g c =
    let old = c.args.self.now in
    does_nothing g.H.Host old (sync_prepare g.H.Host.meaning Trimmed c.args.log)
    (prepares_none g.H.Host.meaning Trimmed old.state c.args.log (omega arith)) c.requires.runs
