use Rattle.std.proofs.Common.{sym, ap, ◌∙◌}
use Rattle.nop_types.specs.Logs.{Trimmed}
use Rattle.replica_state.specs.Moves.{adopt}
use Rattle.replica_state.specs.Sends.{when}
use Rattle.replica_rows.specs.Rows.{start_view}
use Rattle.replica_rows.proofs.Running.{on_ok, does_as, does_nothing}
use Rattle.replica_rows.proofs.member.Member.start_view.Goals as goal

pub returns-then-not-may_adopt : goal.returns-then-not-may_adopt
unfolding start_view
returns-then-not-may_adopt g c =
    let m = g.H.Host.meaning in
    let s = c.args.self.now.state in
    does_nothing g.H.Host c.args.self.now (start_view m Trimmed c.args.sender c.args.view c.args.next c.args.log)
    (ap (λ b. when b (λ t. adopt m Trimmed t c.args.view c.args.next c.args.log) s) (sym c.may_adopt.ensures ∙ c.if-not-may_adopt.true))
    c.requires.runs

pub returns : goal.returns
unfolding start_view
returns g c =
    let m = g.H.Host.meaning in
    let s = c.args.self.now.state in
    on_ok c.adopt.result _ _
    (does_as g.H.Host c.args.self.now _ (λ t. adopt m Trimmed t c.args.view c.args.next c.args.log)
    (start_view m Trimmed c.args.sender c.args.view c.args.next c.args.log)
    (ap (λ b. when b (λ t. adopt m Trimmed t c.args.view c.args.next c.args.log) s)
    (sym (sym c.may_adopt.ensures ∙ c.if-not-may_adopt.false))))
    c.adopt.ensures
