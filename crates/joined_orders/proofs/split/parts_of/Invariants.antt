use Rattle.std.proofs.Common.{◌≡◌, ◌≤◌, length}
use Rattle.joined_orders.specs.Names.{names_of}
use Rattle.joined_orders.specs.Splitting.{part_names, AreSplit}
use Rattle.joined_orders.proofs.split.parts_of.Given as goal
use Rattle.pairs.specs.Said.{said_by}

abbrev pub invariant-loop-place : goal.invariant-loop-place
invariant-loop-place g l = record {
  within : l.place ≤ length l.claims;
  names : names_of l.split.names ≡ part_names l.split.parts.items;
  split : AreSplit g.P.Parted.part (said_by l.claims) l.place l.split.parts.items;
  few : length l.split.parts.items ≤ g.P.Parted.MAX_PARTS;
}
