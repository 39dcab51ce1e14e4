use Rattle.std.proofs.Common.{◌≡◌, ◌++◌, map}
use Rattle.std.specs.Map.Iter.{deref_pair}
use Rattle.kv_host.specs.Places.{plain, present}
use Rattle.kv_host.proofs.table.Table.rows.Given as goal

abbrev pub invariant-loop-key : goal.invariant-loop-key
invariant-loop-key l = map deref_pair l.rows.items ++ present (plain l.key-iterator) ≡ present l.self
