use Rattle.std.proofs.Common.{◌≡◌, ◌≤◌, drop}
use Rattle.host_list.specs.Places.{reach_on}
use Rattle.host_list.proofs.counts.reach.Given as goal

abbrev pub invariant-loop-i : goal.invariant-loop-i
invariant-loop-i l = (reach_on l.so_far l.i (drop l.i l.addresses) ≡ reach_on 0 0 l.addresses) × (l.so_far ≤ l.i)
