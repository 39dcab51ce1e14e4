use Rattle.std.proofs.Common.{◌≡◌, ◌+◌, ◌≤◌, ◌-◌, length}
use Rattle.order_search.specs.States.{most_left, IsSearch}
use Rattle.order_search.proofs.search.Search.place_reads.Given as goal
use Rattle.pairs.specs.Said.{said_by}

abbrev pub invariant-loop-at : goal.invariant-loop-at
invariant-loop-at g l = record {
  search : IsSearch g.H.Host (said_by l.claims) l.self;
  line : l.self.line ≡ l.initial.self.line;
  next : l.self.next ≡ 0;
  less : length l.self.waiting.items ≤ l.before;
  within : l.at ≤ length l.self.waiting.items;
  falls : most_left (said_by l.claims) l.self + l.before
      ≤ most_left (said_by l.claims) l.initial.self + length l.self.waiting.items;
  kept : length l.self.waiting.items ≡ l.before → l.self.steps.items ≡ l.initial.self.steps.items;
}

abbrev pub decreases-loop-at : goal.decreases-loop-at
decreases-loop-at g l = length l.self.waiting.items - l.at
