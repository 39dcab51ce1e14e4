use Rattle.std.proofs.Common.{◌≡◌, true, false, ap, ◌∙◌, sym}
use Rattle.std.specs.Prelude.{not}
use Rattle.nop_types.specs.Logs.{Trimmed}
use Rattle.nop_types.specs.Views.{is_view, join_of}
use Rattle.replica_state.specs.Sends.{when}
use Rattle.replica_rows.specs.Rows.{enter_and_drain, view_change_request}
use Rattle.replica_rows.proofs.Running.{on_ok, does_as, does_nothing}
use Rattle.replica_rows.proofs.member.Member.view_change_request.Goals as goal

pub returns-then-is : goal.returns-then-is
returns-then-is g c =
    let s = c.args.self.now.state in
    let v = c.args.view in
    let is : is_view (join_of s.view v) s.view ≡ true =
    ap (λ j. is_view j s.view) (sym c.join-join.ensures) ∙ sym c.is.ensures ∙ c.if-is.true in
    does_nothing g.H.Host c.args.self.now (view_change_request g.H.Host.meaning Trimmed v)
    (ap (λ b. when (not b) (enter_and_drain g.H.Host.meaning Trimmed (join_of s.view v)) s) is) c.requires.runs

pub returns : goal.returns
returns g c =
    let s = c.args.self.now.state in
    let v = c.args.view in
    let is : is_view (join_of s.view v) s.view ≡ false =
    ap (λ j. is_view j s.view) (sym c.join-join.ensures) ∙ sym c.is.ensures ∙ c.if-is.false in
    let same =
    ap (λ j. enter_and_drain g.H.Host.meaning Trimmed j s) c.join-join.ensures
    ∙ sym (ap (λ b. when (not b) (enter_and_drain g.H.Host.meaning Trimmed (join_of s.view v)) s) is) in
    on_ok c.enter_and_drain.result _ _
    (does_as g.H.Host c.args.self.now _ (enter_and_drain g.H.Host.meaning Trimmed c.join-join.result)
    (view_change_request g.H.Host.meaning Trimmed v) same)
    c.enter_and_drain.ensures
