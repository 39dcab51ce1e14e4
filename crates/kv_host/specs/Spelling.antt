-- How an op is spelled in bytes.
use Rattle.std.specs.Prelude.{◌≡◌, ℕ, ◌≤◌, List, ◌∷◌, ◌++◌, length, ⊤}
use Rattle.std.specs.Int.{w16, to_be_bytes}
use Rattle.nop_types.specs.declared.limits.TheConstants.{MAX_KEY_BYTES, MAX_VALUE_BYTES}
use Rattle.kv_host.specs.declared.op.TheConstants.{GET, PUT, DELETE, SWAP}
use Rattle.kv_host.specs.Op.{Op, Get, Put, Delete, Swap, Bad}

-- a field has a length from low to high
pub record FieldFits (low high : ℕ) (field : List ℕ) : Type 0 where
  pub least : low ≤ length field
  pub most : length field ≤ high

abbrev pub KeyFits : List ℕ → Type 0
KeyFits key = FieldFits 1 MAX_KEY_BYTES key

abbrev pub ValueFits : List ℕ → Type 0
ValueFits value = FieldFits 0 MAX_VALUE_BYTES value

-- each field of the op has a length in its range
abbrev pub OpFits : Op → Type 0
OpFits (Get key) = KeyFits key
OpFits (Put key value) = KeyFits key × ValueFits value
OpFits (Delete key) = KeyFits key
OpFits (Swap key old new) = KeyFits key × ValueFits old × ValueFits new
OpFits Bad = ⊤

-- a field: its length in two bytes, and its bytes
unfoldable pub field : List ℕ → List ℕ
field bytes = to_be_bytes w16 (length bytes) ++ bytes

-- the bytes spell the op; no bytes spell `Bad`
abbrev pub Spells : Op → List ℕ → Type 0
Spells (Get key) bytes = KeyFits key × (bytes ≡ GET ∷ field key)
Spells (Put key value) bytes = KeyFits key × ValueFits value × (bytes ≡ PUT ∷ (field key ++ field value))
Spells (Delete key) bytes = KeyFits key × (bytes ≡ DELETE ∷ field key)
Spells (Swap key old new) bytes = KeyFits key × ValueFits old × ValueFits new × (bytes ≡ SWAP ∷ (field key ++ (field old ++ field new)))
Spells Bad bytes = ⊥
