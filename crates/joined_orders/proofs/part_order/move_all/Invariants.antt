use Rattle.std.proofs.Common.{◌≡◌, map, take}
use Rattle.joined_orders.proofs.part_order.move_all.Given as goal
use Rattle.joined_orders.specs.Joining.{moved}

abbrev pub invariant-loop-p : goal.invariant-loop-p
invariant-loop-p l = l.all.items ≡ map (moved l.places) (take l.p-index l.placed)
