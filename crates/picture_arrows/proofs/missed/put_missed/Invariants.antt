use Rattle.std.proofs.Common.{◌≡◌, ◌++◌, take}
use Rattle.picture_arrows.specs.Missed.{missed_at}
use Rattle.picture_arrows.proofs.missed.put_missed.Given as goal

abbrev pub invariant-loop-actor : goal.invariant-loop-actor
invariant-loop-actor l =
    l.missed.items ≡ l.initial.missed.items ++ missed_at (take l.actor-index l.actors) l.crashes l.index l.flight
