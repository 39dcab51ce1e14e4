use Rattle.std.proofs.Common.{◌≡◌, ◌++◌, drop}
use Rattle.host_watch.specs.Asked.{nodes_of}
use Rattle.host_watch.proofs.nodes_of.Given as goal

abbrev pub invariant-loop-place : goal.invariant-loop-place
invariant-loop-place l = l.nodes.items ++ nodes_of l.fn.own (drop l.place-index l.places) ≡ nodes_of l.fn.own l.places
