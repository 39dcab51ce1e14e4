use Rattle.std.proofs.Common.{◌+◌, sym, subst, rules}
use Rattle.std.specs.Prelude.{nat_lt}
use Rattle.std.specs.List.{AllByRecursion}
use Rattle.std.proofs.lemmas.Fn.{filter_same}
use Rattle.nop_types.specs.declared.limits.TheConstants.{WINDOW}
use Rattle.nop_types.specs.declared.output.Accept.{Accept}
use Rattle.client_quorum.specs.Opens.{AcceptFits}
use Rattle.client_quorum.proofs.Opens.{all_stay}
use Rattle.client_quorum.proofs.recent.forget_in.Goals as goal

pub returns-clause-items : goal.returns-clause-items
returns-clause-items c =
    filter_same _ (λ (a : Accept). nat_lt c.args.last_id (a.id + WINDOW)) _ (λ x b f h. search rules) _ _ c.retain.ensures.filtered

pub returns-clause-all : goal.returns-clause-all
returns-clause-all c =
    subst (AllByRecursion AcceptFits) (sym (returns-clause-items c))
    (all_stay AcceptFits (λ (a : Accept). nat_lt c.args.last_id (a.id + WINDOW)) c.args.accepts.now.items c.requires)
