use Rattle.std.proofs.Common.{rules}
use Rattle.std.proofs.lemmas.Fn.{always_returns_same}
use Rattle.std.proofs.lemmas.List.Sorted.{IsNonDecreasingBy-from_sort_by_key}
use Rattle.joined_orders.proofs.SortClauses.{sorted_of}
use Rattle.joined_orders.proofs.join.sort_by_lines.Goals as goal
use Rattle.order_search.specs.declared.outcome.Placed.{Placed}

pub returns : goal.returns
returns c =
    sorted_of c.args.placed.now.items c.sort_by_key.new.self.items
    (IsNonDecreasingBy-from_sort_by_key (λ (p : Placed). p.line) _ c.in_ok-sort_by_key.ensures.sorted (λ a r q k. search rules))
    (c.in_ok-sort_by_key.ensures.stable (λ (p : Placed). p.line) (always_returns_same _ _ _ (λ a r q k. search rules)))
