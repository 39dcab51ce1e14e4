-- The ops of the key-value service, and how their bytes are read.
use Rattle.std.specs.Prelude.{ℕ, List, [], ◌∷◌, length, take, drop, Option, Some, None, nat_le, unwrap_or, ◌==◌, ◌&&◌}
use Rattle.std.specs.Prelude.{if◌then◌else◌}
use Rattle.std.specs.Int.{w16, from_be_bytes}
use Rattle.nop_types.specs.declared.limits.TheConstants.{MAX_KEY_BYTES, MAX_VALUE_BYTES}
use Rattle.nop_types.specs.Lists.{all_below}
use Rattle.kv_host.specs.declared.op.TheConstants.{GET, PUT, DELETE, SWAP}
pub use Rattle.nop_types.specs.Options.{◌>>=◌}

pub data Op : Type 0 where
  -- the value of the key
  Get : (key : List ℕ) → Op
  -- the key has the value
  Put : (key value : List ℕ) → Op
  -- the key has no value
  Delete : (key : List ℕ) → Op
  -- where the key's value is the old one, it has the new one
  Swap : (key old new : List ℕ) → Op
  -- bytes that spell none of these
  Bad : Op

-- a field, and what follows it
abbrev pub Field : Type 0
Field = List ℕ × List ℕ

-- a length of two bytes, from the least to the most, and that many bytes
unfoldable pub field_at : ℕ → ℕ → List ℕ → Option Field
field_at least most (high ∷ low ∷ rest) =
    let len = from_be_bytes w16 (high ∷ low ∷ []) in
    if all_below (high ∷ low ∷ []) 256 && (nat_le least len && (nat_le len most && nat_le len (length rest))) then
    Some (take len rest, drop len rest)
    else None
field_at least most bytes = None

abbrev pub key_at : List ℕ → Option Field
key_at bytes = field_at 1 MAX_KEY_BYTES bytes

abbrev pub value_at : List ℕ → Option Field
value_at bytes = field_at 0 MAX_VALUE_BYTES bytes

-- the op, where nothing follows
abbrev pub at_end : List ℕ → Op → Option Op
at_end [] op = Some op
at_end (b ∷ bytes) op = None

unfoldable pub read_get : List ℕ → Option Op
read_get bytes = do
  key ← key_at bytes
  at_end key.1 (Get key.0)

unfoldable pub read_put : List ℕ → Option Op
read_put bytes = do
  key ← key_at bytes
  value ← value_at key.1
  at_end value.1 (Put key.0 value.0)

unfoldable pub read_delete : List ℕ → Option Op
read_delete bytes = do
  key ← key_at bytes
  at_end key.1 (Delete key.0)

unfoldable pub read_swap : List ℕ → Option Op
read_swap bytes = do
  key ← key_at bytes
  old ← value_at key.1
  new ← value_at old.1
  at_end new.1 (Swap key.0 old.0 new.0)

-- the fields of an op of this kind
abbrev pub read_fields : ℕ → List ℕ → Option Op
read_fields kind bytes =
    if kind == GET then read_get bytes
    else if kind == PUT then read_put bytes
    else if kind == DELETE then read_delete bytes
    else if kind == SWAP then read_swap bytes
    else None

-- the op that the bytes spell: its kind in a byte, its fields, and nothing after them
unfoldable pub read_op : List ℕ → Op
read_op [] = Bad
read_op (kind ∷ bytes) = unwrap_or (read_fields kind bytes) Bad
