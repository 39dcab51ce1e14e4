use Rattle.std.proofs.Common.{rules}
use Rattle.network.specs.Network.{SendsPrefix, sends_of}
use Rattle.network.proofs.LineLemmas.{carried_more, prefix_stays}
use Rattle.network.proofs.lines.carry_out_all.Goals as goal

pub loop-out-preserved : goal.loop-out-preserved
loop-out-preserved c =
    let i = c.loop-out.invariant in
    let more = carried_more c.args.from c.args.network.now c.loop-out.network c.carry_out_one.new.network c.args.tally.now
    c.loop-out.tally c.carry_out_one.new.tally c.args.outs.now c.loop-out.out-index c.out-item.result c.loop-out-test.true
    c.out-item.is (record { network = i.network; lines = i.lines }) c.in_ok-carry_out_one.ensures.network
    c.in_ok-carry_out_one.ensures.lines in
    record { network = more.network; lines = more.lines }

pub returns-in_err-carry_out_one-clause-prefix : goal.returns-in_err-carry_out_one-clause-prefix
returns-in_err-carry_out_one-clause-prefix c =
    let prefix : SendsPrefix c.args.network.now c.carry_out_one.new.network (sends_of c.args.from c.args.outs.now) =
    prefix_stays c.args.from c.args.network.now c.loop-out.network c.carry_out_one.new.network c.args.outs.now c.loop-out.out-index
    c.out-item.result c.loop-out-test.true c.out-item.is c.loop-out.invariant.network c.in_err-carry_out_one.ensures.prefix in
    search rules
