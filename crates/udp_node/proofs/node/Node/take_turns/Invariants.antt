use Rattle.std.proofs.Common.{◌≡◌, ◌-◌, ◌≤◌, ◌+◌, min, []}
use Rattle.udp_node.specs.Effects.{WroteText}
use Rattle.udp_node.specs.Folding.{TookSome}
use Rattle.udp_node.specs.Nodes.{Same, asks_of, link_side}
use Rattle.udp_node.specs.Progress.{Going}
use Rattle.udp_node.specs.Sends.{last_count}
use Rattle.udp_node.proofs.node.Node.take_turns.Given as goal

abbrev pub invariant-loop-taken : goal.invariant-loop-taken
invariant-loop-taken g l = record {
  going : Going g.C.Core.next g.C.Core.is_done (asks_of l.fn.self) g.C.Core.timers l.turns
      (g.C.Core.state l.fn.self.core.now) (g.L.Link.answers l.fn.self.link.now) (g.K.Clock.values l.fn.clock)
      l.taken (g.C.Core.state l.self.core.now) l.timers.items l.now (g.L.Link.answers l.self.link.now) (g.K.Clock.values l.clock)
      (link_side g.L.Link l.fn.self) (link_side g.L.Link l.self)
      (g.W.Sink.held l.fn.self.sink.now) (g.W.Sink.held l.self.sink.now);
  within : l.taken ≤ l.turns;
  wrote : WroteText (g.W.Sink.held l.fn.self.sink.now) (g.W.Sink.held l.self.sink.now);
  lost : min (g.L.Link.loss_count l.fn.self.link.now + (l.self.lost - l.fn.self.lost)) last_count ≤ g.L.Link.loss_count l.self.link.now;
  took : TookSome g.C.Core.next (asks_of l.fn.self) [] (g.C.Core.state l.fn.self.core.now) (g.C.Core.state l.self.core.now)
      (g.W.Sink.held l.fn.self.sink.now) (g.W.Sink.held l.self.sink.now);
  polls : g.L.Link.fault_count l.self.link.now ≡ g.L.Link.fault_count l.fn.self.link.now;
  writes : g.W.Sink.fault_count l.self.sink.now ≡ g.W.Sink.fault_count l.fn.self.sink.now;
  same : Same g.L.Link l.fn.self l.self;
}

abbrev pub decreases-loop-taken : goal.decreases-loop-taken
decreases-loop-taken g l = l.turns - l.taken
