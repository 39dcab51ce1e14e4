use Rattle.std.proofs.Common.{◌≡◌, map, take}
use Rattle.roll_call.specs.Nodes.{unasked}
use Rattle.roll_call.proofs.roll.unasked_of.Given as goal

abbrev pub invariant-loop-node : goal.invariant-loop-node
invariant-loop-node l = l.asked.items ≡ map unasked (take l.node-index l.nodes)
