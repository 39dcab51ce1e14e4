use Rattle.std.proofs.Common.{◌≡◌, ◌-◌, length}
use Rattle.std.specs.Prelude.{map}
use Rattle.nop_types.specs.Checkpoints.{saved_account}
use Rattle.peer_codec.specs.Logs.{accounts_at}
use Rattle.peer_codec.proofs.Loop.{with_prefix}
use Rattle.peer_codec.proofs.logs.split_accounts.Given as goal

abbrev pub invariant-loop : goal.invariant-loop
invariant-loop l =
    record {
      so_far : with_prefix (map saved_account l.clients.items) (accounts_at (l.count - l.counter) l.least l.rest)
          ≡ accounts_at l.count 0 l.bytes;
      len : length l.clients.items ≡ l.counter;
    }
