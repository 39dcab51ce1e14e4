use Rattle.network.specs.Network.{SendsPrefix, sends_of}
use Rattle.std.proofs.Common.{rules}
use Rattle.network.proofs.LineLemmas.{sent_more, front_before}
use Rattle.network.proofs.sending.send_each.Goals as goal

pub loop-out-preserved : goal.loop-out-preserved
loop-out-preserved c =
    sent_more c.args.from c.args.network.now c.loop-out.network c.send_one.new.network c.args.outs.now c.loop-out.out-index
    c.out-item.result c.loop-out-test.true c.out-item.is c.loop-out.invariant c.in_ok-send_one.ensures.network

pub returns-in_err-send_one-clause-prefix : goal.returns-in_err-send_one-clause-prefix
returns-in_err-send_one-clause-prefix c =
    let prefix : SendsPrefix c.args.network.now c.send_one.new.network (sends_of c.args.from c.args.outs.now) =
    front_before c.args.from c.args.network.now c.loop-out.network c.send_one.new.network c.args.outs.now c.loop-out.out-index
    c.out-item.result c.loop-out-test.true c.out-item.is c.loop-out.invariant c.in_err-send_one.ensures.err in
    search rules
