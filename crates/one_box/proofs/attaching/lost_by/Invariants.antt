use Rattle.std.proofs.Common.{◌≡◌, drop}
use Rattle.one_box.specs.Attaching.{lost_after, lost_by}
use Rattle.one_box.proofs.attaching.lost_by.Given as goal

-- what is left adds up to all
abbrev pub invariant-loop-node : goal.invariant-loop-node
invariant-loop-node g l = lost_after l.lost (drop l.node-index l.nodes) ≡ lost_by l.nodes
