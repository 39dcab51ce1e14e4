use Rattle.std.proofs.Common.{◌≡◌, ◌++◌, drop}
use Rattle.admission.specs.Rounds.{others_of}
use Rattle.admission.proofs.others.others_of.Given as goal

abbrev pub invariant-loop-node : goal.invariant-loop-node
invariant-loop-node l = l.others.items ++ others_of l.own (drop l.node-index l.nodes) ≡ others_of l.own l.nodes
