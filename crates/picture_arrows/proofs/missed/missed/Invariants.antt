use Rattle.std.proofs.Common.{◌≡◌, take}
use Rattle.picture_arrows.specs.Missed.{missed_from}
use Rattle.picture_arrows.proofs.missed.missed.Given as goal

abbrev pub invariant-loop-i : goal.invariant-loop-i
invariant-loop-i l = l.missed.items ≡ missed_from l.actors l.crashes 0 (take l.i l.flights)
