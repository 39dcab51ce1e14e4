use Rattle.std.proofs.Common.{◌≡◌, Some, map}
use Rattle.udp_node.specs.Ports.{port_of}
use Rattle.host_places.specs.Clients.{clients_from}
use Rattle.host_places.proofs.clients.homes_of.Given as goal

abbrev pub invariant-loop-i : goal.invariant-loop-i
invariant-loop-i l = record {
  claims : map (λ h. h.claims) l.homes.items ≡ map (λ a. Some (record l.own { actor = a })) (clients_from l.first l.i);
  ports : map (λ h. h.port) l.homes.items ≡ map (port_of l.at.base) (clients_from l.first l.i);
}
