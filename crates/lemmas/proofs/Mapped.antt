-- Places and members of a list that a function maps, and a list whose first elements are mapped.
use Rattle.std.proofs.Common.{◌≡◌, ℕ, zero, suc, ◌+◌, ◌<◌, List, [], ◌∷◌, ◌++◌, length, take, drop, map, get_or, Option, Some, None, refl}
use Rattle.std.proofs.Common.{sym, ap, ◌∙◌, arith}
use Rattle.std.specs.Prelude.{slice_get, slice_set, option_map}
use Rattle.std.proofs.lemmas.Option.{slice_get-map}
use Rattle.nop_types.specs.Lists.{Has}

pub slice_get-into_map : {A B : Type 0} (v : A → B) (xs : List A) (i : ℕ) (x : A) → slice_get xs i ≡ Some x
    → slice_get (map v xs) i ≡ Some (v x)
slice_get-into_map v xs i x e = slice_get-map v xs i ∙ ap (option_map v) e

-- what is mapped to y stands at the same place
pub record IsMappedFrom {A B : Type 0} (v : A → B) (xs : List A) (i : ℕ) (y : B) : Type 0 where
  pub from : A
  pub there : slice_get xs i ≡ Some from
  pub is : v from ≡ y

pub slice_get-from_map : {A B : Type 0} (v : A → B) (xs : List A) (i : ℕ) (y : B) → slice_get (map v xs) i ≡ Some y
    → IsMappedFrom v xs i y
slice_get-from_map v xs i y e = by (slice_get xs i) refl (sym (slice_get-map v xs i) ∙ e)
  where
    by : (o : Option _) → slice_get xs i ≡ o → option_map v o ≡ Some y → IsMappedFrom v xs i y
    by None at g = absurd cc
    by (Some x) at g = record { from = x; there = at; is = cc }

pub Has-map : {A B : Type 0} (v : A → B) (xs : List A) (x : A) → Has xs x → Has (map v xs) (v x)
Has-map v xs x h = (h.0, slice_get-into_map v xs h.0 x h.1)

-- ---- the first elements are mapped, and one more

abbrev pub mapped_to : {A : Type 0} → (A → A) → ℕ → List A → List A
mapped_to f i xs = map f (take i xs) ++ drop i xs

next_mapped : {A : Type 0} (f : A → A) (xs : List A) (i : ℕ) (d : A) → i < length xs
    → slice_set (mapped_to f i xs) i (f (get_or (mapped_to f i xs) i d)) ≡ mapped_to f (suc i) xs
next_mapped f [] i d l = absurd (omega (arith, l))
next_mapped f (x ∷ xs) zero d l = refl
next_mapped f (x ∷ xs) (suc i) d l = ap (λ ys. f x ∷ ys) (next_mapped f xs i d (omega (arith, l)))

pub one_mapped : {A : Type 0} (f : A → A) (xs : List A) (i : ℕ) (d : A) → i < length xs
    → slice_set (mapped_to f i xs) i (f (get_or (mapped_to f i xs) i d)) ≡ mapped_to f (i + 1) xs
one_mapped f xs i d l = let e : suc i ≡ i + 1 = omega arith in next_mapped f xs i d l ∙ ap (λ n. mapped_to f n xs) e
