use Rattle.std.proofs.Common.{◌≡◌, take}
use Rattle.std.specs.Prelude.{sum_by}
use Rattle.fragments.specs.Held.{held_in}
use Rattle.fragments.proofs.queue.Queue.held.Given as goal

abbrev pub invariant-loop-message : goal.invariant-loop-message
invariant-loop-message l = l.bytes ≡ sum_by held_in (take l.message-index l.self)
