use Rattle.std.proofs.Common.{◌≡◌, take}
use Rattle.joined_orders.proofs.borrowed.claims_at.Given as goal
use Rattle.joined_orders.specs.Owning.{members_at}
use Rattle.pairs.specs.Said.{said_by}

abbrev pub invariant-loop-place : goal.invariant-loop-place
invariant-loop-place l = said_by l.chosen.items ≡ members_at (said_by l.claims) (take l.place-index l.places)
