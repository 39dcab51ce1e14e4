use Rattle.std.proofs.Common.{◌≡◌, ◌-◌, length}
use Rattle.peer_codec.specs.Logs.{entries_at}
use Rattle.peer_codec.proofs.Loop.{with_prefix}
use Rattle.peer_codec.proofs.logs.split_entries.Given as goal

abbrev pub invariant-loop : goal.invariant-loop
invariant-loop l =
    record {
      so_far : with_prefix l.entries.items (entries_at (l.count - l.counter) l.rest) ≡ entries_at l.count l.bytes;
      len : length l.entries.items ≡ l.counter;
    }
