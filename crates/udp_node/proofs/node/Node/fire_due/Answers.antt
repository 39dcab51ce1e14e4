use Rattle.udp_node.proofs.NodeLemmas.{takes_more, takes_not}
use Rattle.udp_node.proofs.node.Node.fire_due.Goals as goal

pub loop-timer-preserved : goal.loop-timer-preserved
loop-timer-preserved g c = record {
  took =
      takes_more g.C.Core g.L.Link g.W.Sink _ _ _ c.args.now c.args.timers.now c.loop-timer.timer-index c.loop-timer-test.true
      c.loop-timer.invariant.took c.in_default.ensures;
}

pub returns-in-Err : goal.returns-in-Err
returns-in-Err g c =
    takes_not g.C.Core g.L.Link g.W.Sink _ _ _ c.args.now c.args.timers.now c.loop-timer.timer-index _ c.loop-timer-test.true
    c.loop-timer.invariant.took c.in-Err.ensures
