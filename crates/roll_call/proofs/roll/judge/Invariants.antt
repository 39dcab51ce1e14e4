use Rattle.std.proofs.Common.{◌≡◌, ◌++◌, drop, map, take}
use Rattle.roll_call.specs.Nodes.{judged}
use Rattle.roll_call.proofs.roll.judge.Given as goal

abbrev pub invariant-loop-asked : goal.invariant-loop-asked
invariant-loop-asked l =
    l.nodes ≡ map (judged l.now) (take l.asked-index l.initial.nodes) ++ drop l.asked-index l.initial.nodes
