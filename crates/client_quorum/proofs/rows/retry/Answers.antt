use Rattle.std.proofs.Common.{◌≡◌, ◌++◌, List, take, map, ap, sym, ◌∙◌, rules}
use Rattle.std.proofs.lemmas.List.{take_all}
use Rattle.nop_types.specs.declared.output.Out.{Out}
use Rattle.client_quorum.specs.ClientSteps.{sent}
use Rattle.client_quorum.specs.OpenRequests.{open_requests}
use Rattle.client_quorum.specs.declared.open_requests.Open.{Open}
use Rattle.client_quorum.proofs.Opens.{sent_requests}
use Rattle.client_quorum.proofs.rows.retry.Goals as goal

pub returns : goal.returns
unfolding open_requests
returns c =
    let items : List Open = c.as_slice-open-items.result.now in
    let all : take c.loop-open.open-index items ≡ items = search (rules, take_all) in
    c.loop-open.invariant
    ∙ ap (λ (os : List Open). c.args.out.now ++ map (λ (o : Open). sent o.request) os) (all ∙ c.as_slice-open-items.ensures.requests)
    ∙ ap (λ (outs : List Out). c.args.out.now ++ outs) (sym (sent_requests c.args.state.now.open_))
