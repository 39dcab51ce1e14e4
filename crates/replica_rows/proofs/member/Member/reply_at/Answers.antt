use Rattle.std.proofs.Common.{◌≡◌, Some, ap, ◌∙◌, ◌++◌, refl, sym, arith}
use Rattle.nop_types.specs.declared.request.Entry.TheVariants.{Req}
use Rattle.nop_types.specs.Legality.{IsOf}
use Rattle.nop_types.specs.Logs.{Trimmed, entry_at}
use Rattle.replica_rows.proofs.Replying.{entry_fits, leader_replies, follower_replies}
use Rattle.replica_rows.proofs.Running.{on_ok}
use Rattle.replica_rows.proofs.member.Member.reply_at.Goals as goal

pub reply_with_result-requires-clause-slot : goal.reply_with_result-requires-clause-slot
reply_with_result-requires-clause-slot g c = record { low = omega (arith, c.requires.ahead); high = omega (arith, c.ranges.slot) }

pub reply_with_result-requires-clause-id : goal.reply_with_result-requires-clause-id
reply_with_result-requires-clause-id g c =
    let s = c.args.self.now.state in
    let request = c.in-Some-Req.request in
    let there : entry_at Trimmed s.log c.args.slot ≡ Some (Req request) =
    sym c.in-Some-Req.ensures.entry ∙ ap Some c.in-Some-Req.field-0-is in
    (entry_fits s.log c.args.slot (Req request) c.requires.runs.within.log there).id_low

pub send_short-requires-clause-slot : goal.send_short-requires-clause-slot
send_short-requires-clause-slot g c = record { low = omega (arith, c.requires.ahead); high = omega (arith, c.ranges.slot) }

pub send_short-requires-clause-id : goal.send_short-requires-clause-id
send_short-requires-clause-id g c =
    let s = c.args.self.now.state in
    let request = c.in-Some-Req.request in
    let there : entry_at Trimmed s.log c.args.slot ≡ Some (Req request) =
    sym c.in-Some-Req.ensures.entry ∙ ap Some c.in-Some-Req.field-0-is in
    (entry_fits s.log c.args.slot (Req request) c.requires.runs.within.log there).id_low

pub returns-then-leads-clause-sends : goal.returns-then-leads-clause-sends
returns-then-leads-clause-sends g c =
    let s = c.args.self.now.state in
    let request = c.in-Some-Req.request in
    let of : IsOf request.client request.id request = record { same_client = refl; same_id = refl } in
    let there : entry_at Trimmed s.log c.args.slot ≡ Some (Req request) =
    sym c.in-Some-Req.ensures.entry ∙ ap Some c.in-Some-Req.field-0-is in
    on_ok c.reply_with_result.result _ _
    (λ sent. sent
    ∙ ap (λ xs. c.args.self.now.sends ++ xs)
    (leader_replies g.H.Host.meaning s c.args.slot request (sym c.leads.ensures ∙ c.if-leads.true) there))
    (c.reply_with_result.ensures.sends request of there)

pub returns-clause-sends : goal.returns-clause-sends
returns-clause-sends g c =
    let s = c.args.self.now.state in
    let request = c.in-Some-Req.request in
    let there : entry_at Trimmed s.log c.args.slot ≡ Some (Req request) =
    sym c.in-Some-Req.ensures.entry ∙ ap Some c.in-Some-Req.field-0-is in
    on_ok c.send_short.result _ _
    (λ sent. sent
    ∙ ap (λ xs. c.args.self.now.sends ++ xs)
    (follower_replies g.H.Host.meaning s c.args.slot request (sym c.leads.ensures ∙ c.if-leads.false) there))
    c.send_short.ensures.ok
