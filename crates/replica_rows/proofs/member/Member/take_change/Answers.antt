use Rattle.std.proofs.Common.{sym, ◌∙◌}
use Rattle.nop_types.specs.declared.replica_state.Phase.TheVariants.{Normal, Change}
use Rattle.nop_types.specs.Logs.{Trimmed}
use Rattle.replica_state.specs.Moves.{resend_start}
use Rattle.replica_rows.specs.Rows.{gather, take_change}
use Rattle.replica_rows.proofs.Branches.{takes_change}
use Rattle.replica_rows.proofs.Running.{on_ok, does_as}
use Rattle.replica_rows.proofs.member.Member.take_change.Goals as goal

pub returns-in-Change : goal.returns-in-Change
returns-in-Change g c =
    let m = g.H.Host.meaning in
    on_ok c.gather.result _ _
    (does_as g.H.Host c.args.self.now _ (λ s. gather m Trimmed s.changes c.args.change s) (take_change m Trimmed c.args.view c.args.change)
    (takes_change m Trimmed c.args.self.now.state c.args.view c.args.change Change (sym c.is.ensures ∙ c.if-not-is.false)
    (sym c.leads.ensures ∙ c.if-not-leads.false) c.in-Change.is))
    c.gather.ensures

pub returns-in-Normal : goal.returns-in-Normal
returns-in-Normal g c =
    let m = g.H.Host.meaning in
    on_ok c.resend_start.result _ _
    (does_as g.H.Host c.args.self.now _ (λ s. resend_start Trimmed s c.args.change.sender)
    (take_change m Trimmed c.args.view c.args.change)
    (takes_change m Trimmed c.args.self.now.state c.args.view c.args.change Normal (sym c.is.ensures ∙ c.if-not-is.false)
    (sym c.leads.ensures ∙ c.if-not-leads.false) c.in-Normal.is))
    c.resend_start.ensures
