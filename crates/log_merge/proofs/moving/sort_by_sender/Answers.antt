use Rattle.std.proofs.Common.{rules}
use Rattle.std.proofs.lemmas.List.Sorted.{IsNonDecreasingBy-from_sort_by_key}
use Rattle.log_merge.proofs.moving.sort_by_sender.Goals as goal

pub returns-clause-ascend : goal.returns-clause-ascend
returns-clause-ascend c =
    IsNonDecreasingBy-from_sort_by_key (λ d. d.sender) _ c.in_ok-sort_by_key.ensures.sorted (λ a r q k. search rules)
