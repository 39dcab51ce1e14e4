use Rattle.std.proofs.Common.{◌≡◌, ◌≤◌, ◌+◌, ◌++◌, length, vec_len}
use Rattle.std.specs.VecDeque.{deque_capacity, deque_len}
use Rattle.client_table.proofs.dropped.put_several.Given as goal

-- the results in front and those behind are the same, and there is room
abbrev pub invariant-loop-last : goal.invariant-loop-last
invariant-loop-last l = record {
  whole : l.results.items ++ l.kept.items ≡ l.initial.results.items ++ l.initial.kept.items;
  room : length l.results.items + deque_len l.kept ≤ deque_capacity l.kept;
  capacity : deque_capacity l.initial.kept ≤ deque_capacity l.kept;
}

abbrev pub decreases-loop-last : goal.decreases-loop-last
decreases-loop-last l = vec_len l.results
