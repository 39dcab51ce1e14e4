use Rattle.std.proofs.Common.{sym, ap}
use Rattle.nop_types.specs.declared.peer.Change.{Change}
use Rattle.nop_types.specs.Logs.{Trimmed}
use Rattle.replica_rows.specs.Messages.{on_body}
use Rattle.replica_rows.specs.Rows.{view_change_request, view_change, start_view}
use Rattle.replica_rows.proofs.Running.{on_ok, does_as}
use Rattle.replica_rows.proofs.member.Member.on_body.Goals as goal

pub returns-in-ViewChangeReq : goal.returns-in-ViewChangeReq
returns-in-ViewChangeReq g c =
    let m = g.H.Host.meaning in
    let p = c.args.message in
    on_ok c.view_change_request.result _ _
    (does_as g.H.Host c.args.self.now _ (view_change_request m Trimmed p.view) (on_body m Trimmed p p.body)
    (ap (λ b. on_body m Trimmed p b c.args.self.now.state) (sym c.in-ViewChangeReq.is)))
    c.view_change_request.ensures

pub returns-in-ViewChange : goal.returns-in-ViewChange
returns-in-ViewChange g c =
    let m = g.H.Host.meaning in
    let p = c.args.message in
    let message = c.in-ViewChange in
    let change : Change = record { sender = p.sender; last_normal = message.last_normal; next = message.next; log = message.log } in
    on_ok c.view_change.result _ _
    (does_as g.H.Host c.args.self.now _ (view_change m Trimmed p.view change) (on_body m Trimmed p p.body)
    (ap (λ b. on_body m Trimmed p b c.args.self.now.state) (sym message.is)))
    c.view_change.ensures

pub returns-in-StartView : goal.returns-in-StartView
returns-in-StartView g c =
    let m = g.H.Host.meaning in
    let p = c.args.message in
    let message = c.in-StartView in
    on_ok c.start_view.result _ _
    (does_as g.H.Host c.args.self.now _ (start_view m Trimmed p.sender p.view message.next message.log) (on_body m Trimmed p p.body)
    (ap (λ b. on_body m Trimmed p b c.args.self.now.state) (sym message.is)))
    c.start_view.ensures
