use Rattle.std.proofs.Common.{◌≡◌, ◌≤◌, ◌++◌, length, vec_capacity}
use Rattle.std.specs.VecDeque.{deque_capacity}
use Rattle.client_table.proofs.dropped.take_several.Given as goal

-- the results that were moved, and the others
abbrev pub invariant-loop : goal.invariant-loop
invariant-loop l = record {
  whole : l.results.items ++ l.kept.items ≡ l.initial.kept.items;
  count : length l.results.items ≡ l.counter;
  capacity : deque_capacity l.kept ≡ deque_capacity l.initial.kept;
  room : l.fn.count ≤ vec_capacity l.results;
}
