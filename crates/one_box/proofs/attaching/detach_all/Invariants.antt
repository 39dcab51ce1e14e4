use Rattle.std.proofs.Common.{◌≡◌, ◌++◌, map}
use Rattle.std.specs.Vec.Iter.{into_iter_items, into_iter_len}
use Rattle.one_box.specs.Attaching.{HasRoom}
use Rattle.one_box.proofs.attaching.detach_all.Given as goal

abbrev pub invariant-loop-node : goal.invariant-loop-node
invariant-loop-node g l = record {
  detached : g.P.Ports.detached l.ports ++ map (λ x. x.link) (into_iter_items l.rest)
      ≡ g.P.Ports.detached l.fn.ports ++ map (λ x. x.link) l.fn.nodes.items;
  attached : g.P.Ports.attached l.ports ≡ g.P.Ports.attached l.fn.ports;
  room : HasRoom (g.P.Ports.attached l.ports) (g.P.Ports.detached l.ports) (into_iter_items l.rest);
  faults : g.P.Ports.fault_count l.ports ≡ g.P.Ports.fault_count l.fn.ports;
}

abbrev pub decreases-loop-node : goal.decreases-loop-node
decreases-loop-node g l = into_iter_len l.rest
