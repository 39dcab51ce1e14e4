use Rattle.std.proofs.Common.{◌≡◌, ◌+◌, ◌*◌, ◌≤◌, take, length}
use Rattle.std.specs.List.{sum_by}
use Rattle.nop_types.specs.Checkpoints.{saved_account}
use Rattle.peer_codec.specs.Spelling.{account_bytes}
use Rattle.peer_codec.proofs.lengths.accounts_len.Given as goal

abbrev pub invariant-loop-saved : goal.invariant-loop-saved
invariant-loop-saved l =
    record {
      exact : l.len ≡ 4 + sum_by (λ c. length (account_bytes (saved_account c))) (take l.saved-index l.clients);
      small : l.len ≤ 4 + 2149 * l.saved-index;
    }
