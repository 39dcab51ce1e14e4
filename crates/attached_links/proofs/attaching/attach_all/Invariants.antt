use Rattle.std.proofs.Common.{◌≡◌, ◌++◌, map}
use Rattle.attached_links.specs.Attaching.{AllFresh, AreNext, HasRoom, Holds, seat_of}
use Rattle.attached_links.proofs.attaching.attach_all.Given as goal

abbrev pub invariant-loop-seat : goal.invariant-loop-seat
invariant-loop-seat g l = record {
  seats : map seat_of l.links.items ++ l.seat-iterator.rest.items ≡ l.fn.seats.items;
  fresh : AllFresh g.P.L.Link l.links.items;
  next : AreNext g.P.L.Link (g.P.Ports.to_come l.fn.ports) l.links.items (g.P.Ports.to_come l.ports);
  holds : Holds (g.P.Ports.attached l.fn.ports) (g.P.Ports.detached l.fn.ports) (g.P.Ports.attached l.ports) (g.P.Ports.detached l.ports)
      l.links.items;
  room : HasRoom (g.P.Ports.attached l.ports) (g.P.Ports.detached l.ports) l.links.items;
  given : g.P.Ports.detached l.ports ≡ g.P.Ports.detached l.fn.ports;
  same : g.P.Ports.fault_count l.ports ≡ g.P.Ports.fault_count l.fn.ports;
}
