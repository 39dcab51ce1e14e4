-- Lists of numbers that pass a test.
use Rattle.std.proofs.Common.{◌≡◌, ℕ, zero, suc, ◌+◌, ◌<◌, ◌≤◌, Bool, true, false, cond, List, [], ◌∷◌, Some, refl, sym, ap, ◌∙◌, arith}
use Rattle.std.specs.Prelude.{◌==◌, ◌||◌, ◌&&◌, filter, slice_get}
use Rattle.std.specs.List.{range_with_len}
use Rattle.std.proofs.lemmas.Bool.Decides.{nat_tests}
use Rattle.slot_votes.specs.Votes.{has_vote}

pub filter_same : (p q : ℕ → Bool) (a n : ℕ) → ((k : ℕ) → a ≤ k → k < a + n → p k ≡ q k)
    → filter p (range_with_len a n) ≡ filter q (range_with_len a n)
filter_same p q a zero h = refl
filter_same p q a (suc n) h =
    let here : p a ≡ q a = h a (omega arith) (omega arith) in
    let rest : filter p (range_with_len (a + 1) n) ≡ filter q (range_with_len (a + 1) n) =
    filter_same p q (a + 1) n (λ k low high. h k (omega arith) (omega arith)) in
    rw (here, rest) refl

-- what is left of a list has a number that is there and passes the test
pub has_filtered : (p : ℕ → Bool) (xs : List ℕ) (k : ℕ) → has_vote (filter p xs) k ≡ (p k && has_vote xs k)
has_filtered p [] k = at (p k)
  where
    at : (b : Bool) → false ≡ (b && false)
    at true = refl
    at false = refl
has_filtered p (x ∷ xs) k = at (p x) refl (x == k) refl (has_filtered p xs k)
  where
    at : (b : Bool) → p x ≡ b → (c : Bool) → (x == k) ≡ c → has_vote (filter p xs) k ≡ (p k && has_vote xs k)
        → has_vote (cond b (x ∷ filter p xs) (filter p xs)) k ≡ (p k && (c || has_vote xs k))
    at true e true f h =
        let same : x ≡ k = grind (arith, nat_tests, f) in
        let here : p k ≡ true = ap p (sym same) ∙ e in
        rw (f, here) refl
    at true e false f h = rw f h
    at false e true f h =
        let same : x ≡ k = grind (arith, nat_tests, f) in
        let here : p k ≡ false = ap p (sym same) ∙ e in
        h ∙ (rw here refl)
    at false e false f h = h

pub has_range : (a n k : ℕ) → a ≤ k → k < a + n → has_vote (range_with_len a n) k ≡ true
has_range a zero k low high = absurd (omega arith)
has_range a (suc n) k low high = at (a == k) refl (λ less. has_range (a + 1) n k less (omega arith))
  where
    at : (b : Bool) → (a == k) ≡ b → (a + 1 ≤ k → has_vote (range_with_len (a + 1) n) k ≡ true)
        → (b || has_vote (range_with_len (a + 1) n) k) ≡ true
    at true e h = refl
    at false e h = h (grind (arith, nat_tests, e, low))

pub range_has : (a n k : ℕ) → has_vote (range_with_len a n) k ≡ true → k < a + n
range_has a zero k e = absurd cc
range_has a (suc n) k e = at (a == k) refl e (λ f. omega (arith, range_has (a + 1) n k f))
  where
    at : (b : Bool) → (a == k) ≡ b → (b || has_vote (range_with_len (a + 1) n) k) ≡ true
        → (has_vote (range_with_len (a + 1) n) k ≡ true → k < a + suc n) → k < a + suc n
    at true f e h = let same : a ≡ k = grind (arith, nat_tests, f) in omega arith
    at false f e h = h e

filter_low : (p : ℕ → Bool) (a n i k : ℕ) → slice_get (filter p (range_with_len a n)) i ≡ Some k → a ≤ k
filter_low p a zero i k e = absurd cc
filter_low p a (suc n) i k e = at (p a) i e (λ j f. omega (arith, filter_low p (a + 1) n j k f))
  where
    at : (b : Bool) (i : ℕ) → slice_get (cond b (a ∷ filter p (range_with_len (a + 1) n)) (filter p (range_with_len (a + 1) n))) i ≡ Some k
        → ((j : ℕ) → slice_get (filter p (range_with_len (a + 1) n)) j ≡ Some k → a ≤ k) → a ≤ k
    at true zero e h = let same : a ≡ k = cc in omega arith
    at true (suc i) e h = h i e
    at false i e h = h i e

-- no number stands twice
pub filter_apart : (p : ℕ → Bool) (a n i j k : ℕ) → slice_get (filter p (range_with_len a n)) i ≡ Some k
    → slice_get (filter p (range_with_len a n)) j ≡ Some k → i ≡ j
filter_apart p a zero i j k e f = absurd cc
filter_apart p a (suc n) i j k e f = at (p a) i j e f (λ s t g h. filter_apart p (a + 1) n s t k g h)
  where
    later : (i : ℕ) → slice_get (filter p (range_with_len (a + 1) n)) i ≡ Some k → a ≡ k → ⊥
    later i e same = absurd (omega (arith, filter_low p (a + 1) n i k e, same))

    at : (b : Bool) (i j : ℕ) → slice_get (cond b (a ∷ filter p (range_with_len (a + 1) n)) (filter p (range_with_len (a + 1) n))) i
        ≡ Some k
        → slice_get (cond b (a ∷ filter p (range_with_len (a + 1) n)) (filter p (range_with_len (a + 1) n))) j ≡ Some k
        → ((s t : ℕ) → slice_get (filter p (range_with_len (a + 1) n)) s ≡ Some k
        → slice_get (filter p (range_with_len (a + 1) n)) t ≡ Some k → s ≡ t) → i ≡ j
    at true zero zero e f h = refl
    at true zero (suc j) e f h = absurd (later j f (let same : a ≡ k = cc in same))
    at true (suc i) zero e f h = absurd (later i e (let same : a ≡ k = cc in same))
    at true (suc i) (suc j) e f h = ap suc (h i j e f)
    at false i j e f h = h i j e f
