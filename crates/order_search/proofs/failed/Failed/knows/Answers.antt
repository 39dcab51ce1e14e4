use Rattle.std.proofs.Common.{◌∙◌, sym}
use Rattle.order_search.proofs.FailedLemmas.{known_of, any_of}
use Rattle.order_search.proofs.failed.Failed.knows.Goals as goal

pub returns : goal.returns
returns c =
    let kept = c.args.self.now.kept.keys in
    let this = c.args.configuration.now in
    (λ e. known_of kept this (sym c.contains.ensures ∙ e), λ known. c.contains.ensures ∙ any_of kept this known)
