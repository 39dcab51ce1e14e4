use Rattle.std.proofs.Common.{◌<◌, length, arith}
use Rattle.lemmas.proofs.Mapped.{one_mapped}
use Rattle.roll_call.specs.Nodes.{marked}
use Rattle.roll_call.proofs.roll.mark.Goals as goal

pub loop-asked-preserved : goal.loop-asked-preserved
loop-asked-preserved c =
    let lt : c.loop-asked.asked-index < length c.args.nodes.now = omega arith in
    let nodes = c.args.nodes.now in
    rw (c.marked.ensures, c.loop-asked.invariant) (one_mapped (marked c.args.port c.args.now) nodes c.loop-asked.asked-index _ lt)
