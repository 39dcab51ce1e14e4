use Rattle.std.proofs.Common.{◌≡◌}
use Rattle.udp_node.specs.Ports.{datagrams_from}
use Rattle.udp_node.specs.Sends.{side_of, Sends, Unpolled}
use Rattle.udp_node.proofs.sending.send_each.Given as goal

abbrev pub invariant-loop-i : goal.invariant-loop-i
invariant-loop-i g l = record {
  sends : Sends (datagrams_from l.bytes l.skipped l.first l.i) (side_of g.L.Link l.fn.link l.fn.lost)
      (side_of g.L.Link l.link l.lost);
  unpolled : Unpolled g.L.Link l.fn.link l.link;
  port : g.L.Link.own_port l.link ≡ g.L.Link.own_port l.fn.link;
}
