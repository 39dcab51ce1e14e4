-- Lists from which an element was removed.
use Rattle.std.proofs.Common.{◌≡◌, ℕ, zero, suc, ◌<◌, ◌≤◌, Bool, false, List, [], ◌∷◌, length, Some, refl, sym, ap, arith, inl, inr}
use Rattle.std.specs.Prelude.{◌⊎◌, slice_get, remove, insert, replicate}
use Rattle.nop_types.specs.Lists.{Has}

-- where an element of what is left stood
pub remove_cases : {A : Type 0} (xs : List A) (at j : ℕ) (n : A) → slice_get (remove xs at) j ≡ Some n
    → ((j < at) × (slice_get xs j ≡ Some n)) ⊎ ((at ≤ j) × (slice_get xs (suc j) ≡ Some n))
remove_cases [] zero j n h = absurd cc
remove_cases [] (suc at) j n h = absurd cc
remove_cases (x ∷ xs) zero j n h = inr (omega arith, h)
remove_cases (x ∷ xs) (suc at) zero n h = inl (omega arith, h)
remove_cases (x ∷ xs) (suc at) (suc j) n h = elim (remove_cases xs at j n h) [
  | inl l ↦ inl (omega (arith, l.0), l.1)
  | inr r ↦ inr (omega (arith, r.0), r.1)
]

-- an element at another place is left
pub remove_has : {A : Type 0} (xs : List A) (at j : ℕ) (n : A) → slice_get xs j ≡ Some n → (j ≡ at → ⊥) → Has (remove xs at) n
remove_has [] at j n h d = absurd cc
remove_has (x ∷ xs) zero zero n h d = absurd (d refl)
remove_has (x ∷ xs) zero (suc j) n h d = (j, h)
remove_has (x ∷ xs) (suc at) zero n h d = (zero, h)
remove_has (x ∷ xs) (suc at) (suc j) n h d = let r = remove_has xs at j n h (λ e. d (ap suc e)) in (suc r.0, r.1)

-- what was removed is inserted again
pub insert-remove : {A : Type 0} (xs : List A) (at : ℕ) (x : A) → slice_get xs at ≡ Some x → insert (remove xs at) at x ≡ xs
insert-remove [] at x h = absurd cc
insert-remove (y ∷ ys) zero x h = let e : y ≡ x = cc in ap (λ t. t ∷ ys) (sym e)
insert-remove (y ∷ ys) (suc at) x h = ap (λ t. y ∷ t) (insert-remove ys at x h)

pub at_most : {A : Type 0} (xs : List A) (at : ℕ) (x : A) → slice_get xs at ≡ Some x → at ≤ length (remove xs at)
at_most [] at x h = absurd cc
at_most (y ∷ ys) zero x h = omega arith
at_most (y ∷ ys) (suc at) x h = let l = at_most ys at x h in omega (arith, l)

pub unmarked_all : (n i : ℕ) (b : Bool) → slice_get (replicate n false) i ≡ Some b → b ≡ false
unmarked_all zero i b h = absurd cc
unmarked_all (suc n) zero b h = cc
unmarked_all (suc n) (suc i) b h = unmarked_all n i b h

pub one_less : {A : Type 0} (xs : List A) (at : ℕ) (x : A) → slice_get xs at ≡ Some x → length xs ≡ suc (length (remove xs at))
one_less [] at x h = absurd cc
one_less (y ∷ xs) zero x h = refl
one_less (y ∷ xs) (suc at) x h = ap suc (one_less xs at x h)
