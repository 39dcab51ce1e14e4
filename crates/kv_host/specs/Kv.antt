-- The key-value service: what it answers to an op, and what the op leaves.
use Rattle.std.specs.Prelude.{ℕ, ◌≤◌, IfSome, List, ◌++◌, Option, Some, None, Bool, not, ◌&&◌, nat_le, codes, if◌then◌else◌}
use Rattle.std.specs.FinMap as finite
use Rattle.nop_types.specs.Meaning.{Meaning}
use Rattle.kv_host.specs.declared.table.TheConstants.{MAX_KEYS}
use Rattle.kv_host.specs.Op.{Op, Get, Put, Delete, Swap, Bad, read_op}
use Rattle.kv_host.specs.Spelling.{KeyFits, ValueFits}
use Rattle.kv_host.specs.Values.{Kv, has_value}
use Rattle.kv_host.specs.Saved.{saved, loaded}

-- a value as an answer
abbrev pub shown : Option (List ℕ) → List ℕ
shown None = codes "none"
shown (Some value) = codes "=" ++ value

-- whether a put of the key is refused: it has no value, and as many keys as may have one do
abbrev pub is_refused : Kv → List ℕ → Bool
is_refused kv key = not (finite.contains_key kv key) && nat_le MAX_KEYS (finite.len kv)

-- a get shows the value, a put and a delete the former value
abbrev pub answer_to : Kv → Op → List ℕ
answer_to kv (Get key) = shown (finite.get kv key)
answer_to kv (Put key value) = if is_refused kv key then codes "full" else shown (finite.get kv key)
answer_to kv (Delete key) = shown (finite.get kv key)
answer_to kv (Swap key old new) = if has_value kv key old then codes "yes" else codes "no"
answer_to kv Bad = codes "bad"

abbrev pub state_after : Kv → Op → Kv
state_after kv (Get key) = kv
state_after kv (Put key value) = if is_refused kv key then kv else finite.insert kv key value
state_after kv (Delete key) = finite.remove kv key
state_after kv (Swap key old new) = if has_value kv key old then finite.insert kv key new else kv
state_after kv Bad = kv

-- it begins with no key, and reads each op from its bytes
abbrev pub kv_meaning : Meaning Kv
kv_meaning = record {
  opening = finite.empty;
  after = λ kv op. state_after kv (read_op op);
  answer = λ kv op. answer_to kv (read_op op);
  saved = saved;
  loaded = loaded;
}

-- what ops keep to: at most `MAX_KEYS` keys have a value, and keys and values have lengths that an op can spell
pub record IsSound (kv : Kv) : Type 0 where
  pub few : finite.len kv ≤ MAX_KEYS
  pub fits : (key : List ℕ) → IfSome (finite.get kv key) (λ value. KeyFits key × ValueFits value)
