use Rattle.std.proofs.Common.{take, Ok}
use Rattle.udp_node.specs.Nodes.{Takes}
use Rattle.udp_node.specs.Timing.{due_ticks}
use Rattle.udp_node.proofs.node.Node.fire_due.Given as goal

abbrev pub invariant-loop-timer : goal.invariant-loop-timer
invariant-loop-timer g l = record {
  took : Takes g.C.Core g.L.Link g.W.Sink {T = Unit {0}} l.fn.self l.self (due_ticks l.now (take l.timer-index l.timers)) (Ok tt);
}
