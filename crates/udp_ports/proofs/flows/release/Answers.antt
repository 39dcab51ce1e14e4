use Rattle.udp_ports.proofs.Turning.{advanced_more}
use Rattle.udp_ports.proofs.flows.release.Goals as goal

pub loop-i-preserved : goal.loop-i-preserved
loop-i-preserved g c =
    let went = c.advance.ensures.sent c.if-not-advance.false in
    advanced_more c.args.flow.now c.loop-i.flow c.advance.new.self c.loop-i.i c.loop-i.invariant went.0 went.1.1
