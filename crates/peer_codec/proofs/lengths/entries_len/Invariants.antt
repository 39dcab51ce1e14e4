use Rattle.std.proofs.Common.{◌≡◌, ◌+◌, ◌*◌, ◌≤◌, take, length}
use Rattle.std.specs.List.{sum_by}
use Rattle.peer_codec.specs.Spelling.{entry_bytes}
use Rattle.peer_codec.proofs.lengths.entries_len.Given as goal

abbrev pub invariant-loop-entry : goal.invariant-loop-entry
invariant-loop-entry l =
    record {
      exact : l.len ≡ 4 + sum_by (λ e. length (entry_bytes e)) (take l.entry-index l.entries);
      small : l.len ≤ 4 + 655 * l.entry-index;
    }
