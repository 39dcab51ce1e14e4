-- The keys of the key-value service as its parts.
use Rattle.std.specs.Prelude.{◌≡◌, ℕ, ◌+◌, ◌≤◌, List, [], ◌∷◌, Bool, cond}
use Rattle.std.specs.FinMap as finite
use Rattle.kv_host.specs.Op.{Op, Get, Put, Delete, Swap, Bad, read_op}
use Rattle.kv_host.specs.Values.{Kv}

-- the key that an op is about; none has no byte
abbrev pub key_of : Op → List ℕ
key_of (Get key) = key
key_of (Put key value) = key
key_of (Delete key) = key
key_of (Swap key old new) = key
key_of Bad = []

-- the key of the op that bytes spell
abbrev pub part_of : List ℕ → List ℕ
part_of op = key_of (read_op op)

abbrev pub one_of : Bool → ℕ
one_of b = cond b 1 0

-- how many of these keys have a value
abbrev pub count_in : List (List ℕ) → Kv → ℕ
count_in [] kv = 0
count_in (p ∷ parts) kv = one_of (finite.contains_key kv p) + count_in parts kv

-- no keys but these have values, and the two maps have the same value at the part
pub record SameKey (parts : List (List ℕ)) (part : List ℕ) (s t : Kv) : Type 0 where
  pub left : finite.len s ≤ count_in parts s
  pub right : finite.len t ≤ count_in parts t
  pub value : finite.get s part ≡ finite.get t part
