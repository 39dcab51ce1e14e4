-- Lists that begin another one, or are the rest of one.
use Rattle.std.proofs.Common.{◌≡◌, ℕ, zero, suc, ◌≤◌, List, [], ◌∷◌, ◌++◌, length, take, drop, Some, refl, sym, ap, ◌∙◌, arith}
use Rattle.std.proofs.Common.{length-append, take-append-drop, append_assoc}
use Rattle.std.specs.Prelude.{slice_get}
use Rattle.std.specs.List.{AllByRecursion}
use Rattle.std.proofs.lemmas.List.{append-nil}
use Rattle.std.proofs.lemmas.Option.{slice_get_within}
use Rattle.nop_types.specs.Lists.{Has, IsPrefixOf}
use Rattle.lemmas.proofs.Places.{slice_get-some}

pub IsPrefixOf-refl : {A : Type 0} (xs : List A) → IsPrefixOf xs xs
IsPrefixOf-refl xs = ([], sym (append-nil xs))

pub IsPrefixOf-trans : {A : Type 0} (xs ys zs : List A) → IsPrefixOf xs ys → IsPrefixOf ys zs → IsPrefixOf xs zs
IsPrefixOf-trans xs ys zs p q = (p.0 ++ q.0, q.1 ∙ ap (λ prefix. prefix ++ q.0) p.1 ∙ append_assoc xs p.0 q.0)

pub IsPrefixOf-take : {A : Type 0} (n : ℕ) (xs : List A) → IsPrefixOf (take n xs) xs
IsPrefixOf-take n xs = (drop n xs, sym (take-append-drop n xs))

pub length-prefix : {A : Type 0} (xs ys : List A) → IsPrefixOf xs ys → length xs ≤ length ys
length-prefix xs ys (rest, e) = omega (arith, length-append xs rest, ap length e)

pub slice_get-prefix : {A : Type 0} (xs ys : List A) (i : ℕ) (x : A) → IsPrefixOf xs ys → slice_get xs i ≡ Some x → slice_get ys i ≡ Some x
slice_get-prefix [] ys i x h e = absurd cc
slice_get-prefix (z ∷ xs) [] i x (rest, g) e = absurd cc
slice_get-prefix (z ∷ xs) (y ∷ ys) zero x (rest, g) e = cc
slice_get-prefix (z ∷ xs) (y ∷ ys) (suc i) x (rest, g) e = slice_get-prefix xs ys i x (rest, cc) e

pub Has-prefix : {A : Type 0} (xs ys : List A) (x : A) → IsPrefixOf xs ys → Has xs x → Has ys x
Has-prefix xs ys x p h = (h.0, slice_get-prefix xs ys h.0 x p h.1)

-- a list begins another one if each place has there what it has here
pub IsPrefixOf-from_places : {A : Type 0} (xs ys : List A) → ((i : ℕ) (x : A) → slice_get xs i ≡ Some x → slice_get ys i ≡ Some x)
    → IsPrefixOf xs ys
IsPrefixOf-from_places [] ys h = (ys, refl)
IsPrefixOf-from_places (x ∷ xs) [] h = absurd (let e = h 0 x refl in cc)
IsPrefixOf-from_places (x ∷ xs) (y ∷ ys) h =
    let e = h 0 x refl in
    let r = IsPrefixOf-from_places xs ys (λ i z g. h (suc i) z g) in
    let first : x ≡ y = cc in
    (r.0, rw first (ap (λ t. y ∷ t) r.1))

-- of two prefixes of one list the shorter begins the longer
pub IsPrefixOf-shorter : {A : Type 0} (xs ys zs : List A) → IsPrefixOf xs zs → IsPrefixOf ys zs → length xs ≤ length ys → IsPrefixOf xs ys
IsPrefixOf-shorter xs ys zs h g le = IsPrefixOf-from_places xs ys (λ i x e.
    let inside = slice_get_within xs i x e in
    let other = slice_get-some ys i (omega (arith, inside, le)) in
    let here = slice_get-prefix xs zs i x h e in
    let there = slice_get-prefix ys zs i other.0 g other.1 in
    let same : other.0 ≡ x = cc in
    other.1 ∙ ap (λ y. Some y) same)

-- ---- what holds of each element

pub all-take : {A : Type 0} (P : A → Type 0) (n : ℕ) (xs : List A) → AllByRecursion P xs → AllByRecursion P (take n xs)
all-take P zero xs h = tt
all-take P (suc n) [] h = tt
all-take P (suc n) (x ∷ xs) h = (h.0, all-take P n xs h.1)

pub all-drop : {A : Type 0} (P : A → Type 0) (n : ℕ) (xs : List A) → AllByRecursion P xs → AllByRecursion P (drop n xs)
all-drop P zero xs h = h
all-drop P (suc n) [] h = tt
all-drop P (suc n) (x ∷ xs) h = all-drop P n xs h.1
