-- Places of lists: of two lists joined, of a list with one more element, of a part, and where one is written.
use Rattle.std.proofs.Common.{◌≡◌, ℕ, zero, suc, ◌+◌, ◌<◌, List, [], ◌∷◌, ◌++◌, length, take, drop, Some, refl, ap, ◌∙◌, arith, inl, inr}
use Rattle.std.proofs.Common.{map, sym}
use Rattle.std.specs.Prelude.{◌⊎◌, slice_get, slice_set}
use Rattle.std.specs.List.{range_with_len}
use Rattle.std.proofs.lemmas.List.{set-get_or}
use Rattle.std.proofs.lemmas.Option.{get_or_from_slice_get}

-- ---- a place that is there

pub slice_get-some : {A : Type 0} (xs : List A) (i : ℕ) → i < length xs → (x : A) × (slice_get xs i ≡ Some x)
slice_get-some [] i l = absurd (omega (arith, l))
slice_get-some (x ∷ xs) zero l = (x, refl)
slice_get-some (x ∷ xs) (suc i) l = slice_get-some xs i (omega (arith, l))

-- how a list goes on there
pub record Splits {A : Type 0} (xs : List A) (i : ℕ) (x : A) : Type 0 where
  pub prefix : take (suc i) xs ≡ take i xs ++ x ∷ []
  pub back : drop i xs ≡ x ∷ drop (suc i) xs

pub Splits-at : {A : Type 0} (xs : List A) (i : ℕ) (x : A) → slice_get xs i ≡ Some x → Splits xs i x
Splits-at [] i x h = absurd cc
Splits-at (z ∷ xs) zero x h = let e : z ≡ x = cc in record { prefix = cc; back = cc }
Splits-at (z ∷ xs) (suc i) x h = let s = Splits-at xs i x h in record { prefix = ap (λ t. z ∷ t) s.prefix; back = s.back }

-- ---- two lists joined

pub slice_get-append_left : {A : Type 0} (xs ys : List A) (i : ℕ) (x : A) → slice_get xs i ≡ Some x → slice_get (xs ++ ys) i ≡ Some x
slice_get-append_left [] ys i x h = absurd cc
slice_get-append_left (z ∷ xs) ys zero x h = h
slice_get-append_left (z ∷ xs) ys (suc i) x h = slice_get-append_left xs ys i x h

pub slice_get-append_right : {A : Type 0} (xs ys : List A) (i : ℕ) → slice_get (xs ++ ys) (length xs + i) ≡ slice_get ys i
slice_get-append_right [] ys i = let e : 0 + i ≡ i = omega arith in rw e refl
slice_get-append_right (z ∷ xs) ys i =
    let e : suc (length xs) + i ≡ suc (length xs + i) = omega arith in
    rw e (slice_get-append_right xs ys i)

pub slice_get-append_within : {A : Type 0} (xs ys : List A) (i : ℕ) → i < length xs → slice_get (xs ++ ys) i ≡ slice_get xs i
slice_get-append_within [] ys i l = absurd (omega (arith, l))
slice_get-append_within (z ∷ xs) ys zero l = refl
slice_get-append_within (z ∷ xs) ys (suc i) l = slice_get-append_within xs ys i (omega (arith, l))

-- where a place of both parts together is
pub slice_get-append_cases : {A : Type 0} (xs ys : List A) (i : ℕ) (x : A) → slice_get (xs ++ ys) i ≡ Some x
    → ((i < length xs) × (slice_get xs i ≡ Some x)) ⊎ ((j : ℕ) × (i ≡ length xs + j) × (slice_get ys j ≡ Some x))
slice_get-append_cases [] ys i x h = inr (i, omega arith, h)
slice_get-append_cases (z ∷ xs) ys zero x h = inl (omega arith, h)
slice_get-append_cases (z ∷ xs) ys (suc i) x h = elim (slice_get-append_cases xs ys i x h) [
  | inl l ↦ inl (omega (arith, l.0), l.1)
  | inr r ↦ inr (r.0, omega (arith, r.1), r.2)
]

-- the place behind the first part
pub slice_get-append_at : {A : Type 0} (xs : List A) (x : A) (ys : List A) → slice_get (xs ++ x ∷ ys) (length xs) ≡ Some x
slice_get-append_at [] x ys = refl
slice_get-append_at (z ∷ xs) x ys = slice_get-append_at xs x ys

pub take-append_past : {A : Type 0} (xs ys : List A) (j : ℕ) → take (length xs + j) (xs ++ ys) ≡ xs ++ take j ys
take-append_past [] ys j = let e : 0 + j ≡ j = omega arith in rw e refl
take-append_past (x ∷ xs) ys j =
    let e : suc (length xs) + j ≡ suc (length xs + j) = omega arith in
    rw e (ap (λ t. x ∷ t) (take-append_past xs ys j))

-- a place of a list with one more element is an old one or the last
pub slice_get-push_cases : {A : Type 0} (xs : List A) (y : A) (i : ℕ) (x : A) → slice_get (xs ++ y ∷ []) i ≡ Some x
    → ((i < length xs) × (slice_get xs i ≡ Some x)) ⊎ ((i ≡ length xs) × (y ≡ x))
slice_get-push_cases [] y zero x h = inr (refl, cc)
slice_get-push_cases [] y (suc i) x h = absurd cc
slice_get-push_cases (z ∷ xs) y zero x h = inl (omega arith, h)
slice_get-push_cases (z ∷ xs) y (suc i) x h = elim (slice_get-push_cases xs y i x h) [
  | inl l ↦ inl (omega (arith, l.0), l.1)
  | inr r ↦ inr (omega (arith, r.0), r.1)
]

-- ---- a part

pub slice_get-take : {A : Type 0} (xs : List A) (n i : ℕ) → i < n → slice_get (take n xs) i ≡ slice_get xs i
slice_get-take xs zero i l = absurd (omega (arith, l))
slice_get-take [] (suc n) i l = refl
slice_get-take (x ∷ xs) (suc n) zero l = refl
slice_get-take (x ∷ xs) (suc n) (suc i) l = slice_get-take xs n i (omega (arith, l))

pub slice_get-from_take : {A : Type 0} (n : ℕ) (xs : List A) (i : ℕ) (x : A) → slice_get (take n xs) i ≡ Some x
    → (i < n) × (slice_get xs i ≡ Some x)
slice_get-from_take zero xs i x e = absurd cc
slice_get-from_take (suc n) [] i x e = absurd cc
slice_get-from_take (suc n) (y ∷ ys) zero x e = (omega arith, e)
slice_get-from_take (suc n) (y ∷ ys) (suc i) x e = let r = slice_get-from_take n ys i x e in (omega (arith, r.0), r.1)

-- ---- the values of a function at a, a + 1 and so on

pub slice_get-table : {A : Type 0} (g : ℕ → A) (a n i : ℕ) → i < n → slice_get (map g (range_with_len a n)) i ≡ Some (g (a + i))
slice_get-table g a zero i l = absurd (omega (arith, l))
slice_get-table g a (suc n) zero l = let e : a ≡ a + 0 = omega arith in ap (λ t. Some (g t)) e
slice_get-table g a (suc n) (suc i) l =
    let e : (a + 1) + i ≡ a + suc i = omega arith in
    slice_get-table g (a + 1) n i (omega (arith, l)) ∙ ap (λ t. Some (g t)) e

-- ---- a place that is written

pub slice_get-set_here : {A : Type 0} (xs : List A) (i : ℕ) (x : A) → i < length xs → slice_get (slice_set xs i x) i ≡ Some x
slice_get-set_here [] i x h = absurd (omega (arith, h))
slice_get-set_here (y ∷ ys) zero x h = refl
slice_get-set_here (y ∷ ys) (suc i) x h = slice_get-set_here ys i x (omega (arith, h))

pub slice_get-set_other : {A : Type 0} (xs : List A) (i j : ℕ) (x : A) → (j ≡ i → ⊥) → slice_get (slice_set xs i x) j ≡ slice_get xs j
slice_get-set_other [] i j x d = refl
slice_get-set_other (y ∷ ys) zero zero x d = absurd (d refl)
slice_get-set_other (y ∷ ys) zero (suc j) x d = refl
slice_get-set_other (y ∷ ys) (suc i) zero x d = refl
slice_get-set_other (y ∷ ys) (suc i) (suc j) x d = slice_get-set_other ys i j x (λ e. d (ap suc e))

pub length-slice_set : {A : Type 0} (xs : List A) (i : ℕ) (x : A) → length (slice_set xs i x) ≡ length xs
length-slice_set [] i x = refl
length-slice_set (y ∷ ys) zero x = refl
length-slice_set (y ∷ ys) (suc i) x = ap suc (length-slice_set ys i x)

-- what stands at a place is written back
pub slice_set-found : {A : Type 0} (xs : List A) (i : ℕ) (x : A) → slice_get xs i ≡ Some x → slice_set xs i x ≡ xs
slice_set-found xs i x found = ap (slice_set xs i) (sym (get_or_from_slice_get xs i x x found)) ∙ set-get_or xs i x

-- what stands at a place afterwards was written there, or stood at a place that was not written
pub slice_get-set_cases : {A : Type 0} (xs : List A) (i : ℕ) (x : A) (j : ℕ) (y : A) → slice_get (slice_set xs i x) j ≡ Some y
    → ((j ≡ i) × (y ≡ x)) ⊎ ((j ≡ i → ⊥) × (slice_get xs j ≡ Some y))
slice_get-set_cases [] i x j y e = absurd cc
slice_get-set_cases (z ∷ zs) zero x zero y e = inl (refl, cc)
slice_get-set_cases (z ∷ zs) zero x (suc j) y e = inr (λ a. omega (arith, a), e)
slice_get-set_cases (z ∷ zs) (suc i) x zero y e = inr (λ a. omega (arith, a), e)
slice_get-set_cases (z ∷ zs) (suc i) x (suc j) y e = elim (slice_get-set_cases zs i x j y e) [
  | inl (a, b) ↦ inl (ap suc a, b)
  | inr (a, b) ↦ inr (λ s. a (omega (arith, s)), b)
]

-- what stood at a place is overwritten, or stands there still
pub slice_get-set_after : {A : Type 0} (xs : List A) (i : ℕ) (x : A) (j : ℕ) (y : A) → slice_get xs j ≡ Some y
    → ((j ≡ i) × (slice_get (slice_set xs i x) j ≡ Some x)) ⊎ (slice_get (slice_set xs i x) j ≡ Some y)
slice_get-set_after [] i x j y e = inr e
slice_get-set_after (z ∷ zs) zero x zero y e = inl (refl, refl)
slice_get-set_after (z ∷ zs) zero x (suc j) y e = inr e
slice_get-set_after (z ∷ zs) (suc i) x zero y e = inr e
slice_get-set_after (z ∷ zs) (suc i) x (suc j) y e = elim (slice_get-set_after zs i x j y e) [
  | inl h ↦ inl (ap suc h.0, h.1)
  | inr h ↦ inr h
]
