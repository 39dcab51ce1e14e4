use Rattle.std.proofs.Common.{◌≡◌, take}
use Rattle.filled_orders.proofs.order.borrow_all.Given as goal
use Rattle.pairs.specs.Said.{said_by}
use Rattle.transcript_reader.specs.Claims.{lines_of}

abbrev pub invariant-loop-claim : goal.invariant-loop-claim
invariant-loop-claim l = said_by l.all.items ≡ lines_of (take l.claim-index l.claims)
