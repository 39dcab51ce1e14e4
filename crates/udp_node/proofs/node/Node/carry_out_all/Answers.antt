use Rattle.udp_node.specs.Effects.{effects_of}
use Rattle.udp_node.proofs.NodeLemmas.{does_more, does_not}
use Rattle.udp_node.proofs.node.Node.carry_out_all.Goals as goal

pub returns-in-Err : goal.returns-in-Err
returns-in-Err g c =
    does_not g.C.Core g.L.Link g.W.Sink _ _ _ effects_of _ _ _ _ c.loop-out-test.true c.out-item.is c.loop-out.invariant.done c.in-Err.ensures

pub loop-out-preserved : goal.loop-out-preserved
loop-out-preserved g c = record {
  done =
      does_more g.C.Core g.L.Link g.W.Sink _ _ _ effects_of _ _ _ c.loop-out-test.true c.out-item.is c.loop-out.invariant.done
      c.in_default.ensures;
}
