-- The keys that have a value as bytes, and the bytes read back.
use Rattle.std.specs.Prelude.{ℕ, zero, suc, List, [], ◌∷◌, ◌++◌, ◌&&◌, nat_le, Option, Some, None, if◌then◌else◌}
use Rattle.std.specs.List.{flat_map}
use Rattle.std.specs.Ordering.{nat_cmp, is_lt}
use Rattle.std.specs.Int.{w32, from_be_bytes, to_be_bytes}
use Rattle.std.specs.Cmp.Lexicographic.{slice_cmp}
use Rattle.std.specs.FinMap as finite
use Rattle.nop_types.specs.Lists.{all_below}
use Rattle.kv_host.specs.declared.table.TheConstants.{MAX_KEYS}
use Rattle.kv_host.specs.Op.{◌>>=◌, key_at, value_at}
use Rattle.kv_host.specs.Spelling.{field}
use Rattle.kv_host.specs.Values.{Kv}

-- a key and its value as two fields
abbrev pub entry_bytes : List ℕ × List ℕ → List ℕ
entry_bytes e = field e.0 ++ field e.1

abbrev pub spelled_entries : List (List ℕ × List ℕ) → List ℕ
spelled_entries es = flat_map entry_bytes es

-- a number in four bytes, the highest first
unfoldable pub four_bytes : ℕ → List ℕ
four_bytes n = to_be_bytes w32 n

-- how many keys have a value, and then each of them and its value, keys ascending
abbrev pub saved : Kv → List ℕ
saved kv = four_bytes (finite.len kv) ++ spelled_entries (finite.entries kv)

-- ---- reading them back

-- the map, where nothing follows
abbrev pub nothing_after : List ℕ → Kv → Option Kv
nothing_after [] kv = Some kv
nothing_after (b ∷ bytes) kv = None

-- a key above the last one and its value, and what follows
unfoldable pub entry_at : List ℕ → List ℕ → Option (List ℕ × List ℕ × List ℕ)
entry_at last bytes = do
  key ← key_at bytes
  value ← value_at key.1
  if is_lt (slice_cmp nat_cmp last key.0) then Some (key.0, value.0, value.1) else None

-- the map with n keys more, each above the one before it
unfoldable pub with_keys : ℕ → Kv → List ℕ → List ℕ → Option Kv
with_keys zero kv last bytes = nothing_after bytes kv
with_keys (suc n) kv last bytes = do
  entry ← entry_at last bytes
  with_keys n (finite.insert kv entry.0 entry.1) entry.0 entry.2

-- each key has a byte, so it is above the empty one
unfoldable pub loaded : List ℕ → Option Kv
loaded (a ∷ b ∷ c ∷ d ∷ bytes) =
    let n = from_be_bytes w32 (a ∷ b ∷ c ∷ d ∷ []) in
    if all_below (a ∷ b ∷ c ∷ d ∷ []) 256 && nat_le n MAX_KEYS then with_keys n finite.empty [] bytes else None
loaded bytes = None
