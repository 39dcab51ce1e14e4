use Rattle.std.proofs.Common.{refl, ap, ◌∙◌, ◌++◌, sym}
use Rattle.nop_types.specs.declared.peer.Body.TheVariants as bodies
use Rattle.replica_state.specs.Sends.{to_all}
use Rattle.replica_rows.proofs.Entered.{enters_sending, enters_gathering}
use Rattle.replica_rows.proofs.Running.{on_ok, entered_runs}
use Rattle.replica_rows.proofs.member.Member.enter.Goals as goal

pub to_all-requires-clause-runs : goal.to_all-requires-clause-runs
to_all-requires-clause-runs g c =
    entered_runs g.H.Host c.args.self.now.state _ _ c.args.view c.enter.ensures c.requires.runs c.requires.fits

pub returns-then-not-leads : goal.returns-then-not-leads
returns-then-not-leads g c =
    let does = c.in_ok-to_all.ensures.does in
    let asked = does.sends ∙ ap (λ t. c.args.self.now.sends ++ to_all t bodies.ViewChangeReq) (sym does.state) in
    on_ok c.send_change.result _ _
    (enters_sending g.H.Host c.args.self.now c.to_all.new.self _ c.args.view (does.state ∙ c.enter.ensures) asked
    (sym c.leads.ensures ∙ c.if-not-leads.true) does.runs refl)
    c.send_change.ensures.ok

pub returns : goal.returns
returns g c =
    let does = c.in_ok-to_all.ensures.does in
    let asked = does.sends ∙ ap (λ t. c.args.self.now.sends ++ to_all t bodies.ViewChangeReq) (sym does.state) in
    on_ok c.begin_gathering.result _ _
    (λ gathers. enters_gathering g.H.Host c.args.self.now c.to_all.new.self _ c.args.view (does.state ∙ c.enter.ensures) asked
    (sym c.leads.ensures ∙ c.if-not-leads.false) does.runs gathers refl refl)
    c.begin_gathering.ensures.ok
