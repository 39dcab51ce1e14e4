-- General facts on numbers and lists.
use Rattle.std.proofs.Common.{◌≡◌, ℕ, ◌+◌, ◌≤◌, Bool, true, false, cond, not, List, [], ◌∷◌, ◌++◌, Some, map, refl, sym, subst, arith, inl}
use Rattle.std.proofs.Common.{inr, suc, ◌*◌, ap, ◌∙◌, length, length-append, ◌/◌, zero}
use Rattle.std.specs.Prelude.{◌==◌, if◌then◌else◌, filter, slice_get, drop}
use Rattle.std.proofs.lemmas.Bool.{cases_eq, cases_lt}
use Rattle.std.proofs.lemmas.Bool.Decides.{nat_tests}
use Rattle.nop_types.specs.Lists.{Has, slot_of}
use Rattle.started_views.specs.Quorums.{counts}
use Rattle.lemmas.proofs.Members.{Has-first, Has-rest, Has-none, Has-cases}
use Rattle.started_views.proofs.Quorums.{counts_cases, counts_first, counts_rest}
use Rattle.nop_types.specs.declared.request.Entry.{Entry}
use Rattle.lemmas.proofs.Slots.{slot_of-last}

-- ---- numbers

pub half_of : (f n : ℕ) → n ≡ 2 * f + 1 → n / 2 ≡ f
half_of f n e = omega (arith, e)

pub zero_unless : (n : ℕ) → (1 ≤ n → ⊥) → n ≡ 0
zero_unless n h = elim (cases_lt 0 n) [ inl l ↦ absurd (h (omega (arith, l))) | inr g ↦ omega (arith, g) ]

-- ---- slots and places

pub push_length : (l : List Entry) (x : Entry) → length (l ++ x ∷ []) ≡ suc (length l)
push_length l x = omega (arith, length-append l (x ∷ []))

pub next_slot : (l : List Entry) (x : Entry) → slot_of (l ++ x ∷ []) (length l + 1) ≡ Some x
next_slot l x =
    let e : suc (length l) ≡ length l + 1 = omega arith in
    subst (λ (i : ℕ). slot_of (l ++ x ∷ []) i ≡ Some x) e (slot_of-last l x)

pub drop_get : {A : Type 0} (s : ℕ) (l : List A) (i : ℕ) → slice_get (drop s l) i ≡ slice_get l (s + i)
drop_get zero l i = let e : i ≡ zero + i = omega arith in ap (slice_get l) e
drop_get (suc s) [] i = refl
drop_get (suc s) (x ∷ l) i = let e : suc (s + i) ≡ suc s + i = omega arith in drop_get s l i ∙ ap (slice_get (x ∷ l)) e

-- ---- how often a number is in a list

pub counts_has : (xs : List ℕ) (k : ℕ) → 1 ≤ counts k xs → Has xs k
counts_has [] k h = absurd (omega (arith, h))
counts_has (x ∷ xs) k h = elim (counts_cases k x xs h) [ inl e ↦ Has-first k x xs (sym e) | inr i ↦ Has-rest k x xs (counts_has xs k i) ]

pub has_counts : (xs : List ℕ) (k : ℕ) → Has xs k → 1 ≤ counts k xs
has_counts [] k h = absurd (Has-none k h)
has_counts (x ∷ xs) k h =
    elim (Has-cases k x xs h) [
      | inl e ↦ subst (λ (j : ℕ). 1 ≤ counts j (x ∷ xs)) (sym e) (counts_first x xs)
      | inr i ↦
          counts_rest k x xs (has_counts xs k i)
    ]

-- no number stands twice
pub counts_once : (xs : List ℕ) → ((i j k : ℕ) → slice_get xs i ≡ Some k → slice_get xs j ≡ Some k → i ≡ j) → (k : ℕ) → counts k xs ≤ 1
counts_once [] apart k = omega arith
counts_once (x ∷ xs) apart k = elim (cases_eq x k) [
  | inl e ↦
      let none : counts k xs ≡ 0 = zero_unless (counts k xs) (λ h.
      let there = counts_has xs k h in
      let same : 0 ≡ suc there.0 = apart 0 (suc there.0) k (ap (λ (j : ℕ). Some j) e) there.1 in
      omega (arith, same)) in
      grind (arith, nat_tests, none)
  | inr n ↦
      let rest : counts k xs ≤ 1 = counts_once xs (λ i j l h g. let e : suc i ≡ suc j = apart (suc i) (suc j) l h g in
      omega (arith, e)) k in
      grind (arith, nat_tests, n, rest)
]

-- ---- and in a list that a function makes of another

module _ {A : Type 0} (number : A → ℕ) where
  -- fewer are asked
  fewer : (g : A → Bool) (x : A) (xs : List A) (r : ℕ) (b : Bool) → counts r (map number (filter g xs)) ≤ counts r (map number xs)
      → counts r (map number (cond b (x ∷ filter g xs) (filter g xs))) ≤ counts r (map number (x ∷ xs))
  fewer g x xs r true h = omega (arith, h)
  fewer g x xs r false h = omega (arith, h)

  pub counts_filter : (g : A → Bool) (xs : List A) (r : ℕ) → counts r (map number (filter g xs)) ≤ counts r (map number xs)
  counts_filter g [] r = omega arith
  counts_filter g (x ∷ xs) r = fewer g x xs r (g x) (counts_filter g xs r)

  pub counts_push : (xs : List A) (x : A) (r : ℕ)
      → counts r (map number (xs ++ x ∷ [])) ≡ counts r (map number xs) + (if number x == r then 1 else 0)
  counts_push [] x r = omega arith
  counts_push (y ∷ xs) x r = omega (arith, counts_push xs x r)

  -- none is left of a number that is left out
  left_out : (n : ℕ) (x : A) (xs : List A) (b : Bool) → (number x == n) ≡ b → counts n (map number (filter (λ y. not (number y == n)) xs))
      ≡ 0 → counts n (map number (cond (not b) (x ∷ filter (λ y. not (number y == n)) xs) (filter (λ y. not (number y == n)) xs))) ≡ 0
  left_out n x xs true e h = h
  left_out n x xs false e h = rw e (omega (arith, h))

  pub counts_left_out : (xs : List A) (n : ℕ) → counts n (map number (filter (λ y. not (number y == n)) xs)) ≡ 0
  counts_left_out [] n = refl
  counts_left_out (x ∷ xs) n = left_out n x xs (number x == n) refl (counts_left_out xs n)

  pub counts_member : (xs : List A) (r : ℕ) → 1 ≤ counts r (map number xs) → (x : A) × Has xs x × (number x ≡ r)
  counts_member [] r h = absurd (omega (arith, h))
  counts_member (x ∷ xs) r h = elim (counts_cases r (number x) (map number xs) h) [
    | inl e ↦ (x, Has-first x x xs refl, e)
    | inr i ↦ let g = counts_member xs r i in (g.0, Has-rest g.0 x xs g.1, g.2)
  ]
