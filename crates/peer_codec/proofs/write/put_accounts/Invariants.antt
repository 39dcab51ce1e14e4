use Rattle.std.proofs.Common.{◌≡◌, ◌++◌, length, take}
use Rattle.std.specs.Int.{w32}
use Rattle.std.specs.List.{flat_map}
use Rattle.nop_types.specs.Checkpoints.{saved_account}
use Rattle.oum_codec.specs.Numbers.{be_bytes}
use Rattle.peer_codec.specs.Spelling.{account_bytes}
use Rattle.peer_codec.proofs.write.put_accounts.Given as goal

abbrev pub invariant-loop-saved : goal.invariant-loop-saved
invariant-loop-saved l =
    l.to.items
    ≡ l.fn.to.items ++ (be_bytes w32 (length l.clients) ++ flat_map (λ c. account_bytes (saved_account c)) (take l.saved-index l.clients))
