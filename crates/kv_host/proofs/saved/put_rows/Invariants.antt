use Rattle.std.proofs.Common.{◌≡◌, ◌++◌, length, map, take}
use Rattle.std.specs.Map.Iter.{deref_pair}
use Rattle.kv_host.specs.Saved.{four_bytes, spelled_entries}
use Rattle.kv_host.proofs.saved.put_rows.Given as goal

abbrev pub invariant-loop-key : goal.invariant-loop-key
invariant-loop-key l =
    l.to.items ≡ l.fn.to.items ++ (four_bytes (length l.rows) ++ spelled_entries (map deref_pair (take l.key-index l.rows)))
