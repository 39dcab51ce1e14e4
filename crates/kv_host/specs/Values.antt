-- The keys that have a value.
use Rattle.std.specs.Prelude.{ℕ, List, Option, Some, None, Bool, nat_eq}
use Rattle.std.specs.Ordering.{nat_cmp}
use Rattle.std.specs.Option.{option_eq}
use Rattle.std.specs.Cmp.Lexicographic.{slice_cmp, pointwise}
use Rattle.std.specs.FinMap as finite

-- the keys that have a value, with their values
abbrev pub Kv : Type 0
Kv = finite.FinMap (slice_cmp nat_cmp) (List ℕ)

-- whether the key has a value, and it is this one
abbrev pub has_value : Kv → List ℕ → List ℕ → Bool
has_value kv key value = option_eq (pointwise nat_eq) (finite.get kv key) (Some value)

-- the key has the value, or has none
abbrev pub with_value : Kv → List ℕ → Option (List ℕ) → Kv
with_value kv key None = finite.remove kv key
with_value kv key (Some value) = finite.insert kv key value
