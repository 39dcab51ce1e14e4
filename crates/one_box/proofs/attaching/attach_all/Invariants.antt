use Rattle.std.proofs.Common.{◌≡◌, take, map}
use Rattle.one_box.specs.Attaching.{AttachingOn, HasRoom, Holds, place_for}
use Rattle.one_box.specs.Counting.{part_in, part_of}
use Rattle.one_box.specs.Showing.{links_of, AllLostFit, place_of}
use Rattle.one_box.proofs.attaching.attach_all.Given as goal

abbrev pub invariant-loop-i : goal.invariant-loop-i
invariant-loop-i g l = record {
  on : AttachingOn (links_of g.P.L.Link)
      l.base l.config l.now (take l.i l.actors) (g.P.Ports.to_come l.fn.ports) (g.P.Ports.to_come l.ports) l.nodes.items;
  places : map
      (place_of (links_of g.P.L.Link))
      l.nodes.items
      ≡ map (place_for l.base l.config) (take l.i l.actors);
  parts : map part_of l.nodes.items ≡ map (part_in l.world.state) (take l.i l.actors);
  lost : AllLostFit (links_of g.P.L.Link)
      l.nodes.items;
  holds : Holds (g.P.Ports.attached l.fn.ports) (g.P.Ports.detached l.fn.ports) (g.P.Ports.attached l.ports) (g.P.Ports.detached l.ports)
      l.nodes.items;
  room : HasRoom (g.P.Ports.attached l.ports) (g.P.Ports.detached l.ports) l.nodes.items;
  given : g.P.Ports.detached l.ports ≡ g.P.Ports.detached l.fn.ports;
  same : g.P.Ports.fault_count l.ports ≡ g.P.Ports.fault_count l.fn.ports;
}
