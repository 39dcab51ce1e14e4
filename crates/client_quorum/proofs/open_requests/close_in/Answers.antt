use Rattle.std.proofs.Common.{◌==◌, sym, subst, rules}
use Rattle.std.specs.Prelude.{not}
use Rattle.std.specs.List.{AllByRecursion}
use Rattle.std.proofs.lemmas.Fn.{filter_same}
use Rattle.client_quorum.specs.Opens.{OpenFits}
use Rattle.client_quorum.specs.declared.open_requests.Open.{Open}
use Rattle.client_quorum.proofs.Opens.{all_stay}
use Rattle.client_quorum.proofs.open_requests.close_in.Goals as goal

pub returns-clause-items : goal.returns-clause-items
returns-clause-items c =
    filter_same _ (λ (o : Open). not (o.request.id == c.args.id)) _ (λ x b f h. search rules) _ _ c.retain.ensures.filtered

pub returns-clause-all : goal.returns-clause-all
returns-clause-all c =
    subst (AllByRecursion OpenFits) (sym (returns-clause-items c))
    (all_stay OpenFits (λ (o : Open). not (o.request.id == c.args.id)) c.args.requests.now.items c.requires)
