-- Fronts and rests of lists.
use Rattle.std.proofs.Common.{◌≡◌, ℕ, zero, suc, ◌+◌, ◌-◌, ◌≤◌, ◌<◌, List, [], ◌∷◌, ◌++◌, length, take, drop, Option, None, refl, sym}
use Rattle.std.proofs.Common.{ap, ◌∙◌, arith, length-take-le, take_at}
use Rattle.std.specs.Prelude.{slice_get, slice_set}
use Rattle.std.proofs.Math.Seq.{take-add}
use Rattle.std.proofs.lemmas.List.{drop-drop, drop_at, drop-take, drop-set-add, take-set-le}
use Rattle.nop_types.specs.declared.request.Entry.{Entry}
use Rattle.nop_types.specs.Lists.{slot_of}
use Rattle.nop_types.specs.Slots.{set_slot}

-- ---- a rest of a rest, and a front that goes on

pub drop-to : {A : Type 0} (n b : ℕ) (xs : List A) → b ≤ n → drop (n - b) (drop b xs) ≡ drop n xs
drop-to n b xs h = drop-drop (n - b) b xs ∙ ap (λ (k : ℕ). drop k xs) (let e : b + (n - b) ≡ n = omega (arith, h) in e)

pub take-to : {A : Type 0} (n b : ℕ) (xs : List A) → b ≤ n → take b xs ++ take (n - b) (drop b xs) ≡ take n xs
take-to n b xs h = sym (take-add b (n - b) xs) ∙ ap (λ (k : ℕ). take k xs) (let e : b + (n - b) ≡ n = omega (arith, h) in e)

pub drop-take_to : {A : Type 0} (n b : ℕ) (xs : List A) → b ≤ n → drop b (take n xs) ≡ take (n - b) (drop b xs)
drop-take_to n b xs h =
    ap (λ (k : ℕ). drop b (take k xs)) (let e : n ≡ b + (n - b) = omega (arith, h) in e) ∙ drop-take b (n - b) xs

-- ---- a front, and what comes after it

pub take-prefix : {A : Type 0} (n : ℕ) (xs ys : List A) → n ≤ length xs → take n (take n xs ++ ys) ≡ take n xs
take-prefix n xs ys h = take_at (take n xs) ys n (length-take-le n xs h)

pub drop-prefix : {A : Type 0} (n : ℕ) (xs ys : List A) → n ≤ length xs → drop n (take n xs ++ ys) ≡ ys
drop-prefix n xs ys h = drop_at (take n xs) ys n (length-take-le n xs h)

-- ---- slots

get-nil : {A : Type 0} (i : ℕ) → ◌≡◌ {A = Option A} (slice_get [] i) None
get-nil zero = refl
get-nil (suc i) = refl

pub get-drop : {A : Type 0} (n i : ℕ) (xs : List A) → slice_get (drop n xs) i ≡ slice_get xs (n + i)
get-drop zero i xs = ap (λ (k : ℕ). slice_get xs k) (let e : i ≡ 0 + i = omega arith in e)
get-drop (suc n) i [] = get-nil i ∙ sym (get-nil (suc n + i))
get-drop (suc n) i (x ∷ xs) = get-drop n i xs ∙ ap (λ (k : ℕ). slice_get (x ∷ xs) k) (let e : suc (n + i) ≡ suc n + i = omega arith in e)

pub slot_of-drop : {A : Type 0} (n k : ℕ) (xs : List A) → n < k → slot_of (drop n xs) (k - n) ≡ slot_of xs k
slot_of-drop n zero xs h = absurd (omega (arith, h))
slot_of-drop n (suc i) xs h =
    ap (λ (k : ℕ). slot_of (drop n xs) k) (let e : suc i - n ≡ suc (i - n) = omega (arith, h) in e)
    ∙ get-drop n (i - n) xs
    ∙ ap (λ (k : ℕ). slice_get xs k) (let e : n + (i - n) ≡ i = omega (arith, h) in e)

-- a slot above n is written
pub drop-set_slot : (n k : ℕ) (e : Entry) (xs : List Entry) → n < k → drop n (set_slot xs k e) ≡ set_slot (drop n xs) (k - n) e
drop-set_slot n zero e xs h = absurd (omega (arith, h))
drop-set_slot n (suc i) e xs h =
    ap (λ (k : ℕ). drop n (slice_set xs k e)) (let g : i ≡ n + (i - n) = omega (arith, h) in g)
    ∙ drop-set-add n xs (i - n) e
    ∙ ap (λ (k : ℕ). set_slot (drop n xs) k e) (let g : suc (i - n) ≡ suc i - n = omega (arith, h) in g)

pub take-set_slot : (n k : ℕ) (e : Entry) (xs : List Entry) → n < k → take n (set_slot xs k e) ≡ take n xs
take-set_slot n zero e xs h = absurd (omega (arith, h))
take-set_slot n (suc i) e xs h = take-set-le n xs i e (omega (arith, h))
