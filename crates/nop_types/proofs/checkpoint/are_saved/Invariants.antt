use Rattle.std.proofs.Common.{◌≡◌, drop, take}
use Rattle.std.specs.Prelude.{map}
use Rattle.std.specs.List.{AllByRecursion}
use Rattle.nop_types.specs.Checkpoints.{saved_account, are_saved, IsSavedAccount}
use Rattle.nop_types.proofs.checkpoint.are_saved.Given as goal

-- the clients that were looked at are as they are saved, and the answer turns on the others
abbrev pub invariant-loop-saved : goal.invariant-loop-saved
invariant-loop-saved l =
    (are_saved l.least (map saved_account (drop l.saved-index l.clients)) ≡ are_saved 0 (map saved_account l.clients))
    × AllByRecursion IsSavedAccount (map saved_account (take l.saved-index l.clients))
