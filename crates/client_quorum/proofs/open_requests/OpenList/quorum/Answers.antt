use Rattle.std.proofs.Common.{◌≡◌, ◌==◌, List, Some, None, ap, sym, subst, ◌∙◌}
use Rattle.std.specs.Prelude.{IfSome, find}
use Rattle.std.specs.Option.{option_copied}
use Rattle.nop_types.specs.Ranges.{ReplyFits}
use Rattle.nop_types.specs.declared.datagram.Reply.{Reply}
use Rattle.client_quorum.specs.KeptReplies.{quorum_of}
use Rattle.client_quorum.proofs.Opens.{found_replies, no_replies, none_of_none}
use Rattle.client_quorum.proofs.open_requests.OpenList.quorum.Goals as goal

pub returns-in-Some-clause-reply : goal.returns-in-Some-clause-reply
returns-in-Some-clause-reply c =
    let here = c.deref.ensures.value ∙ c.self.view_is in
    let found : find (λ o. o.request.id == c.args.id) c.args.self.now ≡ Some c.in-Some.open.now =
    ap (find (λ o. o.request.id == c.args.id)) (sym here) ∙ sym c.first_open.ensures ∙ ap option_copied c.in-Some.is in
    c.quorum.ensures.reply
    ∙ ap (λ (rs : List Reply). quorum_of c.args.config.replicas rs c.args.view c.args.slot)
    (sym (found_replies c.args.self.now c.args.id c.in-Some.open.now found))

pub returns-in-Some-clause-fits : goal.returns-in-Some-clause-fits
returns-in-Some-clause-fits c =
    let here = c.deref.ensures.value ∙ c.self.view_is in
    let found : find (λ o. o.request.id == c.args.id) c.args.self.now ≡ Some c.in-Some.open.now =
    ap (find (λ o. o.request.id == c.args.id)) (sym here) ∙ sym c.first_open.ensures ∙ ap option_copied c.in-Some.is in
    subst (λ (rs : List Reply). IfSome (quorum_of c.args.config.replicas rs c.args.view c.args.slot) ReplyFits)
    (sym (found_replies c.args.self.now c.args.id c.in-Some.open.now found)) c.quorum.ensures.fits

pub returns-in-None-clause-reply : goal.returns-in-None-clause-reply
returns-in-None-clause-reply c =
    let here = c.deref.ensures.value ∙ c.self.view_is in
    let found : find (λ o. o.request.id == c.args.id) c.args.self.now ≡ None =
    ap (find (λ o. o.request.id == c.args.id)) (sym here) ∙ sym c.first_open.ensures ∙ ap option_copied c.in-None.is in
    sym (ap (λ (rs : List Reply). quorum_of c.args.config.replicas rs c.args.view c.args.slot) (no_replies c.args.self.now c.args.id found)
    ∙ none_of_none c.args.config.replicas c.args.view c.args.slot)

pub returns-in-None-clause-fits : goal.returns-in-None-clause-fits
returns-in-None-clause-fits c =
    let here = c.deref.ensures.value ∙ c.self.view_is in
    let found : find (λ o. o.request.id == c.args.id) c.args.self.now ≡ None =
    ap (find (λ o. o.request.id == c.args.id)) (sym here) ∙ sym c.first_open.ensures ∙ ap option_copied c.in-None.is in
    let none = ap (λ (rs : List Reply). quorum_of c.args.config.replicas rs c.args.view c.args.slot) (no_replies c.args.self.now c.args.id found)
    ∙ none_of_none c.args.config.replicas c.args.view c.args.slot in
    subst (λ o. IfSome o ReplyFits) (sym none) tt
