use Rattle.std.proofs.Common.{◌≡◌, ◌-◌}
use Rattle.peer_codec.specs.Logs.{kept_at, least_id}
use Rattle.peer_codec.proofs.Loop.{with_prefix}
use Rattle.peer_codec.proofs.logs.split_kept.Given as goal

abbrev pub invariant-loop : goal.invariant-loop
invariant-loop l =
    record {
      so_far : with_prefix l.kept.items (kept_at (l.count - l.counter) l.least l.greatest l.rest)
          ≡ kept_at l.count (least_id l.greatest) l.greatest l.bytes;
      left : l.left ≡ l.count - l.counter;
    }
