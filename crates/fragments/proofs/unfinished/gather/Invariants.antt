use Rattle.std.proofs.Common.{◌≡◌, ◌-◌, ◌*◌, ◌≤◌, length}
use Rattle.nop_types.specs.declared.limits.TheConstants.{FRAGMENT_BYTES}
use Rattle.fragments.specs.Prefix.{parts_of}
use Rattle.fragments.proofs.unfinished.gather.Given as goal

abbrev pub invariant-loop-at : goal.invariant-loop-at
invariant-loop-at l = record {
  same : parts_of l.prefix.items l.at l.later.items ≡ parts_of l.fn.prefix.items l.filled l.fn.later.items;
  size : length l.prefix.items ≡ FRAGMENT_BYTES * l.at;
  within : l.at ≤ length l.later.items;
}

abbrev pub decreases-loop-at : goal.decreases-loop-at
decreases-loop-at l = length l.later.items - l.at
