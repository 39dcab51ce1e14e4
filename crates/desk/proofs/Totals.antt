-- Sums over lists, and how often a ticket stands in one.
use Rattle.std.proofs.Common.{◌≡◌, ℕ, zero, suc, ◌+◌, ◌≤◌, Bool, true, false, cond, List, [], ◌∷◌, ◌++◌, Option, Some, None, refl, ap, arith, map}
use Rattle.std.specs.Prelude.{◌==◌, not, filter, slice_get, slice_set}
use Rattle.std.proofs.lemmas.Bool.{eq-eqb, ne_eqb}

abbrev pub total : {A : Type 0} → (A → ℕ) → List A → ℕ
total f [] = 0
total f (x ∷ xs) = f x + total f xs

pub total-append : {A : Type 0} (f : A → ℕ) (xs ys : List A) → total f (xs ++ ys) ≡ total f xs + total f ys
total-append f [] ys = omega arith
total-append f (x ∷ xs) ys = let e = total-append f xs ys in omega (arith, e)

pub total-push : {A : Type 0} (f : A → ℕ) (xs : List A) (y : A) → total f (xs ++ y ∷ []) ≡ total f xs + f y
total-push f [] y = omega arith
total-push f (x ∷ xs) y = let e = total-push f xs y in omega (arith, e)

pub total-set : {A : Type 0} (f : A → ℕ) (xs : List A) (i : ℕ) (x y : A) → slice_get xs i ≡ Some x
    → total f (slice_set xs i y) + f x ≡ total f xs + f y
total-set f [] i x y h = absurd cc
total-set f (z ∷ zs) zero x y h = let e : f z ≡ f x = (let s : z ≡ x = cc in ap f s) in omega (arith, e)
total-set f (z ∷ zs) (suc i) x y h = let e = total-set f zs i x y h in omega (arith, e)

filter_le : {A : Type 0} (f : A → ℕ) (x : A) (xs rest : List A) (b : Bool) → total f rest ≤ total f xs
    → total f (cond b (x ∷ rest) rest) ≤ total f (x ∷ xs)
filter_le f x xs rest true h = omega (arith, h)
filter_le f x xs rest false h = omega (arith, h)

pub total-filter_le : {A : Type 0} (f : A → ℕ) (p : A → Bool) (xs : List A) → total f (filter p xs) ≤ total f xs
total-filter_le f p [] = omega arith
total-filter_le f p (x ∷ xs) = filter_le f x xs (filter p xs) (p x) (total-filter_le f p xs)

pub total-map_le : {A : Type 0} (f : A → ℕ) (g : A → A) (xs : List A) → ((x : A) → f (g x) ≤ f x) → total f (map g xs) ≤ total f xs
total-map_le f g [] low = omega arith
total-map_le f g (x ∷ xs) low = let h = low x in let e = total-map_le f g xs low in omega (arith, h, e)

pub total-map_none : {A : Type 0} (f : A → ℕ) (g : A → A) (xs : List A) → ((x : A) → f (g x) ≡ 0) → total f (map g xs) ≡ 0
total-map_none f g [] none = refl
total-map_none f g (x ∷ xs) none = let h = none x in let e = total-map_none f g xs none in omega (arith, h, e)

pub total-le : {A : Type 0} (f g : A → ℕ) (xs : List A) → ((x : A) → f x ≤ g x) → total f xs ≤ total g xs
total-le f g [] low = omega arith
total-le f g (x ∷ xs) low = let h = low x in let e = total-le f g xs low in omega (arith, h, e)

-- what stands in it counts
pub total-at : {A : Type 0} (f : A → ℕ) (xs : List A) (i : ℕ) (x : A) → slice_get xs i ≡ Some x → f x ≤ total f xs
total-at f [] i x h = absurd cc
total-at f (z ∷ zs) zero x h = let e : f z ≡ f x = (let s : z ≡ x = cc in ap f s) in omega (arith, e)
total-at f (z ∷ zs) (suc i) x h = let e = total-at f zs i x h in omega (arith, e)

-- where the sum is 1 at most, one place counts
pub one_place : {A : Type 0} (f : A → ℕ) (xs : List A) (i j : ℕ) (x y : A) → total f xs ≤ 1 → slice_get xs i ≡ Some x → slice_get xs j ≡ Some y
    → f x ≡ 1 → f y ≡ 1 → i ≡ j
one_place f [] i j x y low h k a b = absurd cc
one_place f (z ∷ zs) zero zero x y low h k a b = refl
one_place f (z ∷ zs) zero (suc j) x y low h k a b =
    let e : f z ≡ f x = (let s : z ≡ x = cc in ap f s) in let m = total-at f zs j y k in absurd (omega (arith, e, m, low, a, b))
one_place f (z ∷ zs) (suc i) zero x y low h k a b =
    let e : f z ≡ f y = (let s : z ≡ y = cc in ap f s) in let m = total-at f zs i x h in absurd (omega (arith, e, m, low, a, b))
one_place f (z ∷ zs) (suc i) (suc j) x y low h k a b = ap suc (one_place f zs i j x y (omega (arith, low)) h k a b)

-- ---- a ticket

-- 1 where they are the same
abbrev pub hit : ℕ → ℕ → ℕ
hit t n = cond (n == t) 1 0

pub hit-same : (t n : ℕ) → n ≡ t → hit t n ≡ 1
hit-same t n e = ap (λ (b : Bool). cond b 1 0) (eq-eqb n t e)

pub hit-other : (t n : ℕ) → (n ≡ t → ⊥) → hit t n ≡ 0
hit-other t n d = ap (λ (b : Bool). cond b 1 0) (ne_eqb n t d)

pub hit-le : (b : Bool) → cond b 1 0 ≤ 1
hit-le true = omega arith
hit-le false = omega arith

abbrev pub hit_of : ℕ → Option ℕ → ℕ
hit_of t None = 0
hit_of t (Some n) = hit t n

none_left : {A : Type 0} (f : A → ℕ) (x : A) (rest : List A) (b : Bool) → total f rest ≡ 0 → (b ≡ true → f x ≡ 0) → total f (cond b (x ∷ rest) rest) ≡ 0
none_left f x rest true e h = let z = h refl in omega (arith, e, z)
none_left f x rest false e h = e

-- where those stay that do not count, nothing counts
pub total-filter_none : {A : Type 0} (f : A → ℕ) (p : A → Bool) (xs : List A) → ((x : A) → p x ≡ true → f x ≡ 0) → total f (filter p xs) ≡ 0
total-filter_none f p [] none = refl
total-filter_none f p (x ∷ xs) none = none_left f x (filter p xs) (p x) (total-filter_none f p xs none) (none x)

not_hit : (b : Bool) → not b ≡ true → cond b (suc zero) zero ≡ zero
not_hit true e = absurd cc
not_hit false e = refl

pub others-hit : (t n : ℕ) → not (n == t) ≡ true → hit t n ≡ 0
others-hit t n e = not_hit (n == t) e
