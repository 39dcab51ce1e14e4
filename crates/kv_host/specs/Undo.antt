-- What undoes an op of the key-value service.
use Rattle.std.specs.Prelude.{Option, Some, None, option_map, if◌then◌else◌}
use Rattle.std.specs.FinMap as finite
use Rattle.kv_host.specs.declared.undo.KvUndo.{KvUndo}
use Rattle.kv_host.specs.Op.{Op, Get, Put, Delete, Swap, Bad}
use Rattle.kv_host.specs.Kv.{is_refused}
use Rattle.kv_host.specs.Values.{Kv, has_value, with_value}

-- the key and the value that it had; None where the op changes nothing
abbrev pub undo_of : Kv → Op → Option KvUndo
undo_of kv (Get key) = None
undo_of kv (Put key value) = if is_refused kv key then None else Some (record { key = key; value = finite.get kv key })
undo_of kv (Delete key) = option_map (λ value. record { key = key; value = Some value }) (finite.get kv key)
undo_of kv (Swap key old new) = if has_value kv key old then Some (record { key = key; value = finite.get kv key }) else None
undo_of kv Bad = None

-- the key has that value again
abbrev pub undone : Kv → Option KvUndo → Kv
undone kv None = kv
undone kv (Some undo) = with_value kv undo.key undo.value
