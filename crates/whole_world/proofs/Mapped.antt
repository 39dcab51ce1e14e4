-- Places and members of a list that a function maps.
use Rattle.std.proofs.Common.{◌≡◌, ℕ, List, map, Option, Some, None, refl, sym, ap, ◌∙◌}
use Rattle.std.specs.Prelude.{slice_get, option_map}
use Rattle.std.proofs.lemmas.Option.{slice_get-map}
use Rattle.nop_types.specs.Lists.{Has}

pub slice_get-into_map : {A B : Type 0} (v : A → B) (xs : List A) (i : ℕ) (x : A) → slice_get xs i ≡ Some x
    → slice_get (map v xs) i ≡ Some (v x)
slice_get-into_map v xs i x e = slice_get-map v xs i ∙ ap (option_map v) e

-- what is mapped to y stands at the same place
pub record IsMappedFrom {A B : Type 0} (v : A → B) (xs : List A) (i : ℕ) (y : B) : Type 0 where
  pub from : A
  pub there : slice_get xs i ≡ Some from
  pub is : v from ≡ y

pub slice_get-from_map : {A B : Type 0} (v : A → B) (xs : List A) (i : ℕ) (y : B) → slice_get (map v xs) i ≡ Some y
    → IsMappedFrom v xs i y
slice_get-from_map v xs i y e = by (slice_get xs i) refl (sym (slice_get-map v xs i) ∙ e)
  where
    by : (o : Option _) → slice_get xs i ≡ o → option_map v o ≡ Some y → IsMappedFrom v xs i y
    by None at g = absurd cc
    by (Some x) at g = record { from = x; there = at; is = cc }

pub Has-map : {A B : Type 0} (v : A → B) (xs : List A) (x : A) → Has xs x → Has (map v xs) (v x)
Has-map v xs x h = (h.0, slice_get-into_map v xs h.0 x h.1)
