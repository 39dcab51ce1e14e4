use Rattle.std.proofs.Common.{false, sym, ap, ◌∙◌}
use Rattle.nop_types.specs.Logs.{Trimmed}
use Rattle.replica_state.specs.State.{is_to_leader}
use Rattle.replica_rows.specs.Messages.{from_leader, from_follower, by_role, dispatch}
use Rattle.replica_rows.proofs.Running.{on_ok, does_as, does_nothing}
use Rattle.replica_rows.proofs.member.Member.dispatch.Goals as goal

pub returns-then-is_from_leader : goal.returns-then-is_from_leader
returns-then-is_from_leader g c =
    let m = g.H.Host.meaning in
    let s = c.args.self.now.state in
    on_ok c.from_leader.result _ _
    (does_as g.H.Host c.args.self.now _ (from_leader m Trimmed c.args.body) (dispatch m Trimmed c.args.sender c.args.view c.args.body)
    (ap (λ b. by_role m Trimmed b (is_to_leader s c.args.view) c.args.sender c.args.body s)
    (sym (sym c.is_from_leader.ensures ∙ c.if-is_from_leader.true))))
    c.from_leader.ensures

pub returns-then-is_to_leader : goal.returns-then-is_to_leader
returns-then-is_to_leader g c =
    let m = g.H.Host.meaning in
    let s = c.args.self.now.state in
    on_ok c.from_follower.result _ _
    (does_as g.H.Host c.args.self.now _ (from_follower m Trimmed c.args.sender c.args.body)
    (dispatch m Trimmed c.args.sender c.args.view c.args.body)
    (ap (λ b. by_role m Trimmed false b c.args.sender c.args.body s) (sym (sym c.is_to_leader.ensures ∙ c.if-is_to_leader.true))
    ∙ ap (λ b. by_role m Trimmed b (is_to_leader s c.args.view) c.args.sender c.args.body s)
    (sym (sym c.is_from_leader.ensures ∙ c.if-is_from_leader.false))))
    c.from_follower.ensures

pub returns : goal.returns
returns g c =
    let m = g.H.Host.meaning in
    let s = c.args.self.now.state in
    does_nothing g.H.Host c.args.self.now (dispatch m Trimmed c.args.sender c.args.view c.args.body)
    (ap (λ b. by_role m Trimmed b (is_to_leader s c.args.view) c.args.sender c.args.body s)
    (sym c.is_from_leader.ensures ∙ c.if-is_from_leader.false)
    ∙ ap (λ b. by_role m Trimmed false b c.args.sender c.args.body s) (sym c.is_to_leader.ensures ∙ c.if-is_to_leader.false))
    c.requires.runs
