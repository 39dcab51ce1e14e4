use Rattle.std.proofs.Common.{◌<◌, length, arith}
use Rattle.lemmas.proofs.Mapped.{one_mapped}
use Rattle.admission.specs.Rounds.{marked}
use Rattle.admission.proofs.others.mark.Goals as goal

pub loop-other-preserved : goal.loop-other-preserved
loop-other-preserved c =
    let lt : c.loop-other.other-index < length c.args.others.now = omega arith in
    rw (c.marked.ensures, c.loop-other.invariant) (one_mapped (marked c.args.from) c.args.others.now c.loop-other.other-index _ lt)
