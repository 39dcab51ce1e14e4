-- The bytes that spell an op.
use Rattle.std.specs.Prelude.{ℕ, List, ◌∷◌, ◌++◌, length, Bool, Option, Some, None, nat_le, ◌&&◌, if◌then◌else◌}
use Rattle.nop_types.specs.declared.limits.TheConstants.{MAX_KEY_BYTES, MAX_VALUE_BYTES}
use Rattle.kv_host.specs.declared.op.TheConstants.{GET, PUT, DELETE, SWAP}
use Rattle.kv_host.specs.Op.{Op, Get, Put, Delete, Swap, Bad}
use Rattle.kv_host.specs.Spelling.{field}

abbrev pub fits_key : List ℕ → Bool
fits_key key = nat_le 1 (length key) && nat_le (length key) MAX_KEY_BYTES

abbrev pub fits_value : List ℕ → Bool
fits_value value = nat_le (length value) MAX_VALUE_BYTES

-- the bytes that spell the op, where its fields have lengths that an op may have
unfoldable pub spell : Op → Option (List ℕ)
spell (Get key) = if fits_key key then Some (GET ∷ field key) else None
spell (Put key value) = if fits_key key && fits_value value then Some (PUT ∷ (field key ++ field value)) else None
spell (Delete key) = if fits_key key then Some (DELETE ∷ field key) else None
spell (Swap key old new) =
    if fits_key key && (fits_value old && fits_value new) then Some (SWAP ∷ (field key ++ (field old ++ field new))) else None
spell Bad = None
