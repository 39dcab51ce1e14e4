-- Slots of logs: of prefixes, of longer logs, of logs in which slots are written, and of a log that is laid over another one.
use Rattle.std.proofs.Common.{◌≡◌, ℕ, zero, suc, ◌+◌, ◌<◌, ◌≤◌, List, [], ◌∷◌, ◌++◌, length, take, drop, max, Some, refl, sym, ap, ◌∙◌}
use Rattle.std.proofs.Common.{arith, inl, inr, map, take_at, length-take-le, subst}
use Rattle.std.specs.Prelude.{slice_get, ◌⊎◌}
use Rattle.std.specs.List.{range_with_len}
use Rattle.std.proofs.lemmas.List.{append-nil, length-set, length_push}
use Rattle.std.proofs.lemmas.Option.{slice_get_within, slice_get_past}
use Rattle.nop_types.specs.declared.request.Entry.{Entry}
use Rattle.nop_types.specs.Lists.{Has, IsPrefixOf, slot_of}
use Rattle.nop_types.specs.Slots.{set_slot, laid}
use Rattle.lemmas.proofs.Places.{slice_get-some, Splits-at, slice_get-append_left, slice_get-append_at, slice_get-push_cases, slice_get-take}
use Rattle.lemmas.proofs.Places.{slice_get-from_take, slice_get-table, slice_get-set_here, slice_get-set_other, slice_get-set_cases}
use Rattle.lemmas.proofs.Places.{slice_get-set_after}
use Rattle.lemmas.proofs.Members.{Has-append_right}
use Rattle.lemmas.proofs.Prefixes.{slice_get-prefix, IsPrefixOf-from_places, IsPrefixOf-refl}

pub slot_of-within : {A : Type 0} (l : List A) (k : ℕ) (x : A) → slot_of l k ≡ Some x → (0 < k) × (k ≤ length l)
slot_of-within l zero x e = absurd cc
slot_of-within l (suc i) x e = let less = slice_get_within l i x e in (omega arith, omega (arith, less))

pub slot_of-some : {A : Type 0} (l : List A) (k : ℕ) → 0 < k → k ≤ length l → (x : A) × (slot_of l k ≡ Some x)
slot_of-some l zero a b = absurd (omega (arith, a))
slot_of-some l (suc i) a b = slice_get-some l i (omega (arith, b))

pub slot_of-table : {A : Type 0} (g : ℕ → A) (n k : ℕ) → 0 < k → k ≤ n → slot_of (map g (range_with_len 1 n)) k ≡ Some (g k)
slot_of-table g n zero a l = absurd (omega (arith, a))
slot_of-table g n (suc i) a l = let e : 1 + i ≡ suc i = omega arith in slice_get-table g 1 n i (omega (arith, l)) ∙ ap (λ t. Some (g t)) e

-- ---- prefixes

pub slot_of-prefix : {A : Type 0} (l m : List A) (k : ℕ) (x : A) → IsPrefixOf l m → slot_of l k ≡ Some x → slot_of m k ≡ Some x
slot_of-prefix l m zero x h e = e
slot_of-prefix l m (suc i) x h e = slice_get-prefix l m i x h e

pub IsPrefixOf-from_slots : {A : Type 0} (l m : List A) → ((k : ℕ) (x : A) → slot_of l k ≡ Some x → slot_of m k ≡ Some x) → IsPrefixOf l m
IsPrefixOf-from_slots l m h = IsPrefixOf-from_places l m (λ i x e. h (suc i) x e)

pub slot_of-from_take : {A : Type 0} (s : ℕ) (m : List A) (k : ℕ) (x : A) → slot_of (take s m) k ≡ Some x → (k ≤ s) × (slot_of m k ≡ Some x)
slot_of-from_take s m zero x e = absurd cc
slot_of-from_take s m (suc i) x e = let r = slice_get-from_take s m i x e in (omega (arith, r.0), r.1)

pub slot_of-take : {A : Type 0} (s : ℕ) (m : List A) (k : ℕ) (x : A) → k ≤ s → slot_of m k ≡ Some x → slot_of (take s m) k ≡ Some x
slot_of-take s m zero x l e = e
slot_of-take s m (suc i) x l e = slice_get-take m s i (omega (arith, l)) ∙ e

-- the entry at a slot is among those up to it
pub Has-slot_of : {A : Type 0} (xs : List A) (s : ℕ) (x : A) → slot_of xs s ≡ Some x → Has (take s xs) x
Has-slot_of xs zero x h = absurd cc
Has-slot_of xs (suc i) x h = rw ((Splits-at xs i x h).prefix) (Has-append_right (take i xs) (x ∷ []) x (zero, refl))

-- a slot of the first part
pub record Carries {A : Type 0} (xs ys : List A) (s : ℕ) (x : A) : Type 0 where
  pub slot : slot_of ys s ≡ Some x
  pub part : take s ys ≡ take s xs
  pub inside : s ≤ length (take s xs)

-- each list that begins with the part up to a slot has the same element there
pub Carries-prefix : {A : Type 0} (xs ys : List A) (s : ℕ) (x : A) → IsPrefixOf (take s xs) ys → slot_of xs s ≡ Some x → Carries xs ys s x
Carries-prefix xs ys zero x p h = absurd cc
Carries-prefix xs ys (suc i) x p h =
    let near : i < length xs = slice_get_within xs i x h in
    let n : length (take (suc i) xs) ≡ suc i = length-take-le (suc i) xs (omega (arith, near)) in
    let at : slice_get (take (suc i) xs) i ≡ Some x = slice_get-take xs (suc i) i (omega arith) ∙ h in
    record {
      slot = rw (p.1) (slice_get-append_left (take (suc i) xs) p.0 i x at);
      part = rw (p.1) (take_at (take (suc i) xs) p.0 (suc i) n);
      inside = omega (arith, n);
    }

-- ---- one more entry

pub slot_of-last : {A : Type 0} (l : List A) (x : A) → slot_of (l ++ x ∷ []) (suc (length l)) ≡ Some x
slot_of-last l x = slice_get-append_at l x []

pub slot_of-next : {A : Type 0} (l : List A) (x : A) → slot_of (l ++ x ∷ []) (length l + 1) ≡ Some x
slot_of-next l x =
    let e : suc (length l) ≡ length l + 1 = omega arith in subst (λ (i : ℕ). slot_of (l ++ x ∷ []) i ≡ Some x) e (slot_of-last l x)

pub slot_of-push : {A : Type 0} (l : List A) (x : A) → slot_of (l ++ x ∷ []) (length (l ++ x ∷ [])) ≡ Some x
slot_of-push l x =
    let e : length (l ++ x ∷ []) ≡ suc (length l) = omega (arith, length_push l x) in
    ap (λ (k : ℕ). slot_of (l ++ x ∷ []) k) e ∙ slot_of-last l x

pub slot_of-push_cases : {A : Type 0} (l : List A) (x : A) (k : ℕ) (y : A) → slot_of (l ++ x ∷ []) k ≡ Some y
    → ((k ≡ suc (length l)) × (y ≡ x)) ⊎ (slot_of l k ≡ Some y)
slot_of-push_cases l x zero y e = absurd cc
slot_of-push_cases l x (suc i) y e = elim (slice_get-push_cases l x i y e) [
  | inl h ↦ inr h.1
  | inr h ↦ inl (ap suc h.0, sym h.1)
]

-- ---- a slot that is written

pub length-set_slot : (l : List Entry) (k : ℕ) (x : Entry) → length (set_slot l k x) ≡ length l
length-set_slot l zero x = refl
length-set_slot l (suc i) x = length-set l i x

pub slot_of-set_here : (l : List Entry) (k : ℕ) (x : Entry) → 0 < k → k ≤ length l → slot_of (set_slot l k x) k ≡ Some x
slot_of-set_here l zero x a b = absurd (omega (arith, a))
slot_of-set_here l (suc i) x a b = slice_get-set_here l i x (omega (arith, b))

pub slot_of-set_other : (l : List Entry) (k j : ℕ) (x : Entry) → (j ≡ k → ⊥) → slot_of (set_slot l k x) j ≡ slot_of l j
slot_of-set_other l zero j x d = refl
slot_of-set_other l (suc i) zero x d = refl
slot_of-set_other l (suc i) (suc j) x d = slice_get-set_other l i j x (λ e. d (ap suc e))

-- what is in a slot afterwards was written there, or stood there
pub slot_of-set_cases : (l : List Entry) (k : ℕ) (x : Entry) (j : ℕ) (y : Entry) → slot_of (set_slot l k x) j ≡ Some y
    → ((j ≡ k) × (y ≡ x)) ⊎ (slot_of l j ≡ Some y)
slot_of-set_cases l zero x j y e = inr e
slot_of-set_cases l (suc i) x zero y e = absurd cc
slot_of-set_cases l (suc i) x (suc j) y e = elim (slice_get-set_cases l i x j y e) [ inl h ↦ inl (ap suc h.0, h.1) | inr h ↦ inr h.1 ]

-- what stood in a slot is overwritten, or stands there still
pub slot_of-set_after : (l : List Entry) (k : ℕ) (x : Entry) (j : ℕ) (y : Entry) → slot_of l j ≡ Some y
    → ((j ≡ k) × (slot_of (set_slot l k x) j ≡ Some x)) ⊎ (slot_of (set_slot l k x) j ≡ Some y)
slot_of-set_after l zero x j y e = inr e
slot_of-set_after l (suc i) x zero y e = absurd cc
slot_of-set_after l (suc i) x (suc j) y e = elim (slice_get-set_after l i x j y e) [ inl h ↦ inl (ap suc h.0, h.1) | inr h ↦ inr h ]

-- ---- a log laid over another one

pub laid-append : (l k : List Entry) → laid l k ≡ l ++ drop (length l) k
laid-append [] k = refl
laid-append (x ∷ xs) [] = ap (λ zs. x ∷ zs) (sym (append-nil xs))
laid-append (x ∷ xs) (y ∷ ys) = ap (λ zs. x ∷ zs) (laid-append xs ys)

pub laid-shorter : (l k : List Entry) → length k ≤ length l → laid l k ≡ l
laid-shorter [] [] less = refl
laid-shorter [] (y ∷ ys) less = absurd (omega (arith, less))
laid-shorter (x ∷ xs) [] less = refl
laid-shorter (x ∷ xs) (y ∷ ys) less = ap (λ zs. x ∷ zs) (laid-shorter xs ys (omega (arith, less)))

pub length-laid : (l k : List Entry) → length (laid l k) ≡ max (length l) (length k)
length-laid [] k = omega arith
length-laid (x ∷ xs) [] = omega arith
length-laid (x ∷ xs) (y ∷ ys) = omega (arith, length-laid xs ys)

pub IsPrefixOf-laid : (l k : List Entry) → IsPrefixOf l (laid l k)
IsPrefixOf-laid [] k = (k, refl)
IsPrefixOf-laid (x ∷ xs) [] = IsPrefixOf-refl (x ∷ xs)
IsPrefixOf-laid (x ∷ xs) (y ∷ ys) = let r = IsPrefixOf-laid xs ys in (r.0, ap (λ (t : List Entry). x ∷ t) r.1)

place_below : (l k : List Entry) (i : ℕ) → i < length l → slice_get (laid l k) i ≡ slice_get l i
place_below [] k i less = absurd (omega (arith, less))
place_below (x ∷ xs) [] i less = refl
place_below (x ∷ xs) (y ∷ ys) zero less = refl
place_below (x ∷ xs) (y ∷ ys) (suc i) less = place_below xs ys i (omega (arith, less))

pub slot_of-laid_below : (l k : List Entry) (i : ℕ) → i ≤ length l → slot_of (laid l k) i ≡ slot_of l i
slot_of-laid_below l k zero less = refl
slot_of-laid_below l k (suc i) less = place_below l k i (omega (arith, less))

place_above : (l k : List Entry) (i : ℕ) → length l ≤ i → slice_get (laid l k) i ≡ slice_get k i
place_above [] k i h = refl
place_above (y ∷ ys) [] i h = slice_get_past (y ∷ ys) i h
place_above (y ∷ ys) (z ∷ zs) zero h = absurd (omega (arith, h))
place_above (y ∷ ys) (z ∷ zs) (suc i) h = place_above ys zs i (omega (arith, h))

pub slot_of-laid_above : (l k : List Entry) (i : ℕ) → length l < i → slot_of (laid l k) i ≡ slot_of k i
slot_of-laid_above l k zero h = refl
slot_of-laid_above l k (suc i) h = place_above l k i (omega (arith, h))

place_cases : (l k : List Entry) (i : ℕ) (x : Entry) → slice_get (laid l k) i ≡ Some x → (slice_get l i ≡ Some x) ⊎ (slice_get k i ≡ Some x)
place_cases [] k i x e = inr e
place_cases (y ∷ ys) [] i x e = inl e
place_cases (y ∷ ys) (z ∷ zs) zero x e = inl e
place_cases (y ∷ ys) (z ∷ zs) (suc i) x e = place_cases ys zs i x e

-- what is in a slot afterwards, one of the two logs has there
pub slot_of-laid_cases : (l k : List Entry) (i : ℕ) (x : Entry) → slot_of (laid l k) i ≡ Some x → (slot_of l i ≡ Some x)
    ⊎ (slot_of k i ≡ Some x)
slot_of-laid_cases l k zero x e = absurd cc
slot_of-laid_cases l k (suc i) x e = place_cases l k i x e

place_after : (l k : List Entry) (i : ℕ) (x : Entry) → slice_get k i ≡ Some x
    → ((y : Entry) × (slice_get l i ≡ Some y) × (slice_get (laid l k) i ≡ Some y)) ⊎ (slice_get (laid l k) i ≡ Some x)
place_after [] k i x e = inr e
place_after (y ∷ ys) [] i x e = absurd cc
place_after (y ∷ ys) (z ∷ zs) zero x e = inl (y, refl, refl)
place_after (y ∷ ys) (z ∷ zs) (suc i) x e = place_after ys zs i x e

-- what the lower log has in a slot is overlaid, or stands there still
pub slot_of-laid_after : (l k : List Entry) (i : ℕ) (x : Entry) → slot_of k i ≡ Some x
    → ((y : Entry) × (slot_of l i ≡ Some y) × (slot_of (laid l k) i ≡ Some y)) ⊎ (slot_of (laid l k) i ≡ Some x)
slot_of-laid_after l k zero x e = absurd cc
slot_of-laid_after l k (suc i) x e = place_after l k i x e

-- for the attributes of functions
pub ruleset written_slots = (length-set_slot, slot_of-set_here, slot_of-set_other)

pub ruleset laid_slots = (length-laid, IsPrefixOf-laid, slot_of-laid_above)
