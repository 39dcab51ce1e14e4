use Rattle.std.proofs.Common.{◌+◌, ◌<◌, ◌≤◌, length}
use Rattle.std.specs.Prelude.{◌⊎◌}
use Rattle.order_search.specs.Bounds.{most_steps, AcceptsAt}
use Rattle.order_search.specs.States.{most_left, IsSearch}
use Rattle.order_search.proofs.finding.find_order.Given as goal
use Rattle.pairs.specs.Said.{said_by}

abbrev pub invariant-loop-left : goal.invariant-loop-left
invariant-loop-left g l = record {
  search : IsSearch g.P.Service.Host (said_by l.claims) l.search;
  furthest : 0 < length l.claims → l.furthest < length l.claims;
  reached : (l.furthest ≤ l.search.line) ⊎ AcceptsAt (said_by l.claims) l.furthest;
  used : most_left (said_by l.claims) l.search + l.fn.left ≤ most_steps (said_by l.claims) + l.left;
  left : l.left ≤ l.fn.left;
}

abbrev pub decreases-loop-left : goal.decreases-loop-left
decreases-loop-left g l = l.left
