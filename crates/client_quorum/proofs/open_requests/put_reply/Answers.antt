use Rattle.std.proofs.Common.{◌≡◌, ◌==◌, Some, None, slice_index_or, slice_set, ap, sym, ◌∙◌, arith}
use Rattle.std.specs.List.{position}
use Rattle.client_quorum.specs.declared.open_requests.Open.{Open}
use Rattle.client_quorum.proofs.Opens.{all_fit, none_first, on_ok, replies_fit, set_first}
use Rattle.client_quorum.proofs.open_requests.put_reply.Goals as goal

pub returns-in-Some-clause-ok : goal.returns-in-Some-clause-ok
returns-in-Some-clause-ok c =
    let items = c.args.requests.now.items in
    let d : Open = c.index_mut.result.now in
    let at : position (λ o. o.request.id == c.args.reply.id) items ≡ Some c.in-Some.place =
    ap (position (λ (o : Open). o.request.id == c.args.reply.id)) (sym c.deref.ensures.value) ∙ sym c.place_of.ensures ∙ c.in-Some.is in
    let r = set_first items c.args.reply c.in-Some.place at in
    let place : c.in-Some.place ≡ r.place = (let q = r.is in omega (arith, q)) in
    let here : d ≡ slice_index_or items r.place d = c.index_mut.ensures.value ∙ ap (λ k. slice_index_or items k d) place in
    on_ok c.put.result (λ h. ap (λ k. slice_set items k (record { request = d.request; replies = c.put.new.self })) place
    ∙ r.keeps d c.put.new.self here h) c.put.ensures.ok

pub returns-in-Some-clause-all : goal.returns-in-Some-clause-all
returns-in-Some-clause-all c =
    let items = c.args.requests.now.items in
    let d : Open = c.index_mut.result.now in
    let at : position (λ o. o.request.id == c.args.reply.id) items ≡ Some c.in-Some.place =
    ap (position (λ (o : Open). o.request.id == c.args.reply.id)) (sym c.deref.ensures.value) ∙ sym c.place_of.ensures ∙ c.in-Some.is in
    let r = set_first items c.args.reply c.in-Some.place at in
    let place : c.in-Some.place ≡ r.place = (let q = r.is in omega (arith, q)) in
    let here : d ≡ slice_index_or items r.place d = c.index_mut.ensures.value ∙ ap (λ k. slice_index_or items k d) place in
    all_fit items c.in-Some.place (record { request = d.request; replies = c.put.new.self }) c.requires.all
    (replies_fit c.put.result d c.args.reply c.put.new.self (r.fits d c.requires.all here) c.requires.fits c.put.ensures.ok c.put.ensures.err)

pub returns-in-None-clause-ok : goal.returns-in-None-clause-ok
returns-in-None-clause-ok c =
    let items = c.args.requests.now.items in
    let at : position (λ o. o.request.id == c.args.reply.id) items ≡ None =
    ap (position (λ (o : Open). o.request.id == c.args.reply.id)) (sym c.deref.ensures.value) ∙ sym c.place_of.ensures ∙ c.in-None.is in
    none_first items c.args.reply at
