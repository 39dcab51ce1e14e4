use Rattle.std.proofs.Common.{◌<◌, length, arith}
use Rattle.lemmas.proofs.Mapped.{one_mapped}
use Rattle.admission.specs.Rounds.{unanswered}
use Rattle.admission.proofs.others.forget.Goals as goal

pub loop-other-preserved : goal.loop-other-preserved
loop-other-preserved c =
    let lt : c.loop-other.other-index < length c.args.others.now = omega arith in
    rw (c.unanswered.ensures, c.loop-other.invariant) (one_mapped (λ o. unanswered o.actor) c.args.others.now c.loop-other.other-index _ lt)
