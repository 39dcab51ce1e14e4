use Rattle.std.proofs.Common.{◌∙◌, List, ap, arith}
use Rattle.resending.specs.Receiving.{settled}
use Rattle.resending.specs.declared.receipts.Receipt.{Receipt}
use Rattle.udp_ports.proofs.EachDone.{all_done}
use Rattle.udp_ports.proofs.Settling.{one_settled}
use Rattle.udp_ports.proofs.link.acknowledge_rest.Goals as goal

pub loop-lane-preserved : goal.loop-lane-preserved
loop-lane-preserved g c =
    c.take.ensures.settled ∙ one_settled c.args.receipts.now c.loop-lane.receipts c.loop-lane.lane c.loop-lane.invariant

pub returns : goal.returns
returns g c =
    c.loop-lane.invariant
    ∙ ap (λ (lanes : List Receipt). record c.args.receipts.now { lanes = lanes })
    (all_done settled c.args.receipts.now.lanes c.loop-lane.lane (omega (arith, c.lanes-lanes.ensures.all, c.loop-lane-test.false)))
