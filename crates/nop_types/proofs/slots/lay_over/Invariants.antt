use Rattle.std.proofs.Common.{◌≡◌, ◌++◌, ◌≤◌, length, drop, vec_len}
use Rattle.nop_types.proofs.slots.lay_over.Given as goal

-- what is left to be put, over the entries there, is what was to be put over the first ones
abbrev pub invariant-loop-entry : goal.invariant-loop-entry
invariant-loop-entry l = record {
  whole :
      l.more.items ++ drop (length l.more.items) l.entries.items
      ≡ l.initial.more.items ++ drop (length l.initial.more.items) l.initial.entries.items;
  within : length l.more.items ≤ length l.entries.items;
  len : length l.entries.items ≡ length l.initial.entries.items;
}

abbrev pub decreases-loop-entry : goal.decreases-loop-entry
decreases-loop-entry l = vec_len l.more
