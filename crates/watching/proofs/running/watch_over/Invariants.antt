use Rattle.std.proofs.Common.{◌≡◌, ◌-◌, ◌≤◌}
use Rattle.watching.proofs.Turning.{Going}
use Rattle.watching.specs.Watching.{opening}
use Rattle.watching.proofs.running.watch_over.Given as goal

abbrev pub invariant-loop-taken : goal.invariant-loop-taken
invariant-loop-taken g l = record {
  going : Going l.asked.once l.asked.turns (opening l.asked.redraws l.fn.config.replicas l.fn.roll) (g.L.Link.answers l.fn.link) (g.C.Clock.values l.fn.clock)
      (g.W.Sink.held l.fn.sink) l.begun (l.asked.turns - l.taken) l.watch l.now (g.L.Link.answers l.link) (g.C.Clock.values l.clock)
      (g.W.Sink.held l.sink);
  within : l.taken ≤ l.asked.turns;
  polls : g.L.Link.fault_count l.link ≡ g.L.Link.fault_count l.fn.link;
  writes : g.W.Sink.fault_count l.sink ≡ g.W.Sink.fault_count l.fn.sink;
  port : g.L.Link.own_port l.link ≡ g.L.Link.own_port l.fn.link;
}

abbrev pub decreases-loop-taken : goal.decreases-loop-taken
decreases-loop-taken g l = l.asked.turns - l.taken
