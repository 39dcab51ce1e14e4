use Rattle.std.proofs.Common.{take, Ok}
use Rattle.udp_node.specs.Effects.{sends_in}
use Rattle.udp_node.specs.Nodes.{Does}
use Rattle.udp_node.proofs.node.Node.send_all.Given as goal

abbrev pub invariant-loop-out : goal.invariant-loop-out
invariant-loop-out g l = record {
  done : Does g.L.Link g.W.Sink {T = Unit {0}} l.fn.self l.self (sends_in l.fn.self.at (take l.out-index l.outs)) (Ok tt);
}
