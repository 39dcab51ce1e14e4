-- The table behind the key-value service: a place for each key that was ever written, with its value or without one.
use Rattle.std.specs.Prelude.{◌≡◌, ℕ, ◌+◌, ◌-◌, ◌<◌, Bool, cond, List, [], ◌∷◌, ◌++◌, length, Option, Some, None, map, option_map, slice_get}
use Rattle.std.specs.Prelude.{IsTrue, ⊤}
use Rattle.std.specs.Ordering.{nat_cmp, eq_by_cmp}
use Rattle.std.specs.List.{IsDistinct}
use Rattle.std.specs.Map.{keys_of}
use Rattle.std.specs.Option.{option_map_or, option_to_list}
use Rattle.std.specs.Cmp.Lexicographic.{slice_cmp}
use Rattle.std.specs.FinMap as finite
use Rattle.std.specs.Global.{Vec}
use Rattle.kv_host.specs.declared.undo.KvUndo.{KvUndo}
use Rattle.kv_host.specs.Values.{Kv, with_value}

-- a key that was ever written, and its value, if it has one
abbrev pub Place : Type 0
Place = List ℕ × Option (List ℕ)

abbrev pub Places : Type 0
Places = finite.FinMap (slice_cmp nat_cmp) (Option (List ℕ))

-- the keys that have a value, of a list of places
abbrev pub values_in : List Place → Kv
values_in [] = finite.empty
values_in (e ∷ es) = with_value (values_in es) e.0 e.1

-- the keys that have a value
abbrev pub values_of : Places → Kv
values_of places = values_in (finite.entries places)

-- the places that have a value
abbrev pub present : List Place → List (List ℕ × List ℕ)
present [] = []
present (e ∷ es) = option_to_list (option_map (λ value. (e.0, value)) e.1) ++ present es

-- the entries of a map in some order
pub record IsListOf (kv : Kv) (entries : List (List ℕ × List ℕ)) : Type 0 where
  pub distinct : IsDistinct (eq_by_cmp (slice_cmp nat_cmp)) (keys_of entries)
  pub has : (key : List ℕ) → finite.find (slice_cmp nat_cmp) key entries ≡ finite.get kv key

-- how many keys have a value, once a key that had one (or none) has one (or none)
abbrev pub recounted : ℕ → Bool → Bool → ℕ
recounted n had has = cond has (cond had n (n + 1)) (cond had (n - 1) n)

-- the record's key has a place
abbrev pub HasPlace : Places → Option KvUndo → Type 0
HasPlace places None = ⊤
HasPlace places (Some undo) = IsTrue (finite.contains_key places undo.key)

-- ---- the table itself, in the order in which the places were made

-- its entries, each key as its bytes
abbrev pub plain : List (Vec ℕ × Option (List ℕ)) → List Place
plain entries = map (λ e. (e.0.items, e.1)) entries

abbrev pub places : List Place → Places
places table = finite.from_entries {R = slice_cmp nat_cmp} table

-- how many keys of the table have a value
abbrev pub count_of : List Place → ℕ
count_of table = finite.len (values_of (places table))

-- the key of the place with this number
abbrev pub key_of : List Place → ℕ → List ℕ
key_of table index = option_map_or (λ e. e.0) (slice_get table index) []

-- the key has the place with this number, or none
abbrev pub IsPlaceOf : List Place → List ℕ → Option ℕ → Type 0
IsPlaceOf table key None = finite.get (places table) key ≡ None
IsPlaceOf table key (Some index) = (index < length table) × (key_of table index ≡ key)
