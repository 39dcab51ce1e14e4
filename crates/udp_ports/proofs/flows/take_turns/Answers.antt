use Rattle.udp_ports.proofs.Turning.{turning_none, turning_more, turning_ends}
use Rattle.udp_ports.proofs.flows.take_turns.Goals as goal

pub loop-i-init : goal.loop-i-init
loop-i-init g c = turning_none c.args.now c.args.flows.now

pub loop-i-preserved : goal.loop-i-preserved
loop-i-preserved g c =
    turning_more c.args.now c.args.flows.now c.loop-i.flows c.loop-i.i c.index-flows-i.result c.take_turn.new.flow c.loop-i.invariant
    c.loop-i-test.true c.take_turn.ensures

pub returns : goal.returns
returns g c = turning_ends c.args.now c.args.flows.now c.loop-i.flows c.loop-i.i c.loop-i.invariant c.loop-i-test.false
