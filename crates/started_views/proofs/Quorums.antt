-- Quorums: two share a member, and f others with one more are one.
use Rattle.std.proofs.Common.{◌≡◌, ℕ, zero, suc, ◌+◌, ◌*◌, ◌<◌, ◌≤◌, Bool, cond, eqb, ltb, List, [], ◌∷◌, length, refl, sym, subst, ◌∙◌}
use Rattle.std.proofs.Common.{arith, inl, inr}
use Rattle.std.specs.Prelude.{◌⊎◌}
use Rattle.std.proofs.lemmas.Bool.{lt-ltb, cases_lt, cases_eq}
use Rattle.std.proofs.lemmas.Bool.Decides.{nat_tests}
use Rattle.nop_types.specs.declared.view.View.{View}
use Rattle.nop_types.specs.Views.{leader_of}
use Rattle.started_views.specs.Quorums.{counts, Quorum, Others}

-- how many of the numbers below n the list has, each as often as it stands there
abbrev count_below : ℕ → List ℕ → ℕ
count_below zero xs = 0
count_below (suc n) xs = counts n xs + count_below n xs

counted_more : (n x : ℕ) (xs : List ℕ) → count_below n (x ∷ xs) ≡ cond (ltb x n) 1 0 + count_below n xs
counted_more zero x xs = grind (arith, nat_tests)
counted_more (suc n) x xs =
    step (eqb x n) (ltb x n) (ltb x (suc n)) (grind (arith, nat_tests)) (counts n xs) (count_below n xs) (count_below n (x ∷ xs))
    (counted_more n x xs)
  where
    step : (a b c : Bool) → cond a 1 0 + cond b 1 0 ≡ cond c 1 0 → (m n k : ℕ) → k ≡ cond b 1 0 + n
        → cond a 1 0 + m + k ≡ cond c 1 0 + (m + n)
    step a b c e m n k f = omega (arith, e, f)

-- the first is in its list
pub counts_first : (x : ℕ) (xs : List ℕ) → 1 ≤ counts x (x ∷ xs)
counts_first x xs = grind (arith, nat_tests)

pub counts_rest : (k x : ℕ) (xs : List ℕ) → 1 ≤ counts k xs → 1 ≤ counts k (x ∷ xs)
counts_rest k x xs h = omega (arith, h)

pub counts_cases : (k x : ℕ) (xs : List ℕ) → 1 ≤ counts k (x ∷ xs) → (x ≡ k) ⊎ (1 ≤ counts k xs)
counts_cases k x xs h = grind (arith, nat_tests)

all_counted : (n : ℕ) (xs : List ℕ) → ((k : ℕ) → 1 ≤ counts k xs → k < n) → count_below n xs ≡ length xs
all_counted n [] h = none n
  where
    none : (m : ℕ) → count_below m [] ≡ 0
    none zero = refl
    none (suc m) = omega (arith, none m)
all_counted n (x ∷ xs) h =
    counted_more n x xs ∙ rw (lt-ltb x n (h x (counts_first x xs)), all_counted n xs (λ k g. h k (counts_rest k x xs g))) (omega arith)

-- where no number below n stands more than once in both lists together, they are no more than n
counted_fit : (n : ℕ) (xs ys : List ℕ) → ((k : ℕ) → k < n → counts k xs + counts k ys ≤ 1) → count_below n xs + count_below n ys ≤ n
counted_fit zero xs ys h = omega arith
counted_fit (suc n) xs ys h = omega (arith, h n (omega arith), counted_fit n xs ys (λ k lt. h k (omega arith)))

-- a number below n that is in both, or none does
shared_or_apart : (n : ℕ) (xs ys : List ℕ) → ((k : ℕ) → counts k xs ≤ 1) → ((k : ℕ) → counts k ys ≤ 1)
    → ((k : ℕ) × (k < n) × (1 ≤ counts k xs) × (1 ≤ counts k ys)) ⊎ ((k : ℕ) → k < n → counts k xs + counts k ys ≤ 1)
shared_or_apart zero xs ys p q = inr (λ k lt. absurd (omega (arith, lt)))
shared_or_apart (suc n) xs ys p q = here (counts n xs) (counts n ys) refl refl (shared_or_apart n xs ys p q)
  where
    here : (a b : ℕ) → counts n xs ≡ a → counts n ys ≡ b
        → (((k : ℕ) × (k < n) × (1 ≤ counts k xs) × (1 ≤ counts k ys)) ⊎ ((k : ℕ) → k < n → counts k xs + counts k ys ≤ 1))
        → ((k : ℕ) × (k < suc n) × (1 ≤ counts k xs) × (1 ≤ counts k ys)) ⊎ ((k : ℕ) → k < suc n → counts k xs + counts k ys ≤ 1)
    here a b e f (inl s) = inl (s.0, omega (arith, s.1), s.2, s.3)
    here zero b e f (inr s) =
        inr (λ k lt. elim (cases_lt k n) [ inl l ↦ s k l | inr g ↦ let same : k ≡ n = omega arith in rw same (omega (arith, e, q n)) ])
    here (suc a) zero e f (inr s) =
        inr (λ k lt. elim (cases_lt k n) [ inl l ↦ s k l | inr g ↦ let same : k ≡ n = omega arith in rw same (omega (arith, f, p n)) ])
    here (suc a) (suc b) e f (inr s) = inl (n, omega arith, omega (arith, e), omega (arith, f))

-- two quorums share a member
pub quorums_share : (f : ℕ) (P Q : ℕ → Type 0) → Quorum f P → Quorum f Q → (r : ℕ) × (r < 2 * f + 1) × P r × Q r
quorums_share f P Q a b =
    elim (shared_or_apart (2 * f + 1) a.members b.members a.once b.once) [
      | inl s ↦ (s.0, s.1, a.holds s.0 s.2, b.holds s.0 s.3)
      | inr none ↦
          let few = counted_fit (2 * f + 1) a.members b.members none in
          let left = all_counted (2 * f + 1) a.members a.within in
          let right = all_counted (2 * f + 1) b.members b.within in
          absurd (omega (arith, a.enough, b.enough, few, left, right))
    ]

-- where Q follows from P
pub quorum_weaker : (f : ℕ) (P Q : ℕ → Type 0) → ((r : ℕ) → P r → Q r) → Quorum f P → Quorum f Q
quorum_weaker f P Q g q =
    record { members = q.members; enough = q.enough; once = q.once; within = q.within; holds = λ k h. g k (q.holds k h) }

-- f others and one more are a quorum
pub others_and_one : (f r : ℕ) (P : ℕ → Type 0) → r < 2 * f + 1 → P r → Others f r P → Quorum f P
others_and_one f r P l here o =
    record {
      members = r ∷ o.members;
      enough = omega (arith, o.enough);
      once = λ k. once k (cases_eq r k);
      within = λ k h. elim (counts_cases k r o.members h) [ inl e ↦ subst (λ i. i < 2 * f + 1) e l | inr g ↦ o.within k g ];
      holds = λ k h. elim (counts_cases k r o.members h) [ inl e ↦ subst P e here | inr g ↦ o.holds k g ];
    }
  where
    once : (k : ℕ) → (r ≡ k) ⊎ (r ≡ k → ⊥) → counts k (r ∷ o.members) ≤ 1
    once k (inl e) = elim (cases_lt 0 (counts k o.members)) [ inl g ↦ absurd (o.apart k g (sym e)) | inr g ↦ grind (arith, nat_tests, g) ]
    once k (inr d) = let one = o.once k in grind (arith, nat_tests, d, one)

pub leader_within : (f : ℕ) (w : View) → leader_of w (2 * f + 1) < 2 * f + 1
leader_within f w = omega arith

-- f others and the leader are a quorum
pub others_and_leader : (f : ℕ) (w : View) (P : ℕ → Type 0) → P (leader_of w (2 * f + 1)) → Others f (leader_of w (2 * f + 1)) P
    → Quorum f P
others_and_leader f w P here o = others_and_one f (leader_of w (2 * f + 1)) P (leader_within f w) here o
