use Rattle.std.proofs.Common.{◌≡◌, ◌++◌, drop, map, take}
use Rattle.admission.specs.Rounds.{unanswered}
use Rattle.admission.proofs.others.forget.Given as goal

abbrev pub invariant-loop-other : goal.invariant-loop-other
invariant-loop-other l =
    l.others ≡ map (λ o. unanswered o.actor) (take l.other-index l.initial.others) ++ drop l.other-index l.initial.others
