use Rattle.std.proofs.Common.{◌≤◌, take}
use Rattle.joined_orders.proofs.join.order_by_parts.Given as goal
use Rattle.joined_orders.specs.Joining.{AreJoined}
use Rattle.joined_orders.specs.Splitting.{part_names}
use Rattle.pairs.specs.Said.{said_by}

abbrev pub invariant-loop-part : goal.invariant-loop-part
invariant-loop-part g l = record {
  joined : AreJoined g.P.Service.Host.meaning g.P.Parted.part (said_by l.claims) (take l.part-index (part_names l.parts)) l.placed.items;
  left : l.left ≤ l.fn.left;
}
