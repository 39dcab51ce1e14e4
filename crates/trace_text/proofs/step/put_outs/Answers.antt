use Rattle.trace_text.proofs.Texts.{goes_on}
use Rattle.trace_text.proofs.step.put_outs.Goals as goal

pub loop-out-preserved : goal.loop-out-preserved
loop-out-preserved c =
    goes_on c.args.actor c.args.to.now.items c.loop-out.to.items c.put_out.new.to.items c.args.outs.now c.loop-out.out-index c.out-item.result
    c.loop-out-test.true c.out-item.is c.loop-out.invariant c.in_ok-put_out.ensures.ok
