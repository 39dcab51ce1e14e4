use Rattle.std.proofs.Common.{◌≡◌, ◌++◌, drop, map, take}
use Rattle.roll_call.specs.Nodes.{marked}
use Rattle.roll_call.proofs.roll.mark.Given as goal

abbrev pub invariant-loop-asked : goal.invariant-loop-asked
invariant-loop-asked l =
    l.nodes ≡ map (marked l.port l.now) (take l.asked-index l.initial.nodes) ++ drop l.asked-index l.initial.nodes
