use Rattle.std.proofs.Common.{◌<◌, length, arith}
use Rattle.lemmas.proofs.Mapped.{one_mapped}
use Rattle.roll_call.specs.Nodes.{judged}
use Rattle.roll_call.proofs.roll.judge.Goals as goal

pub loop-asked-preserved : goal.loop-asked-preserved
loop-asked-preserved c =
    let lt : c.loop-asked.asked-index < length c.args.nodes.now = omega arith in
    rw (c.judged.ensures, c.loop-asked.invariant) (one_mapped (judged c.args.now) c.args.nodes.now c.loop-asked.asked-index _ lt)
