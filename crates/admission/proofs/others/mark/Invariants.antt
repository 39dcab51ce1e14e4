use Rattle.std.proofs.Common.{◌≡◌, ◌++◌, drop, map, take}
use Rattle.admission.specs.Rounds.{marked}
use Rattle.admission.proofs.others.mark.Given as goal

abbrev pub invariant-loop-other : goal.invariant-loop-other
invariant-loop-other l =
    l.others ≡ map (marked l.from) (take l.other-index l.initial.others) ++ drop l.other-index l.initial.others
