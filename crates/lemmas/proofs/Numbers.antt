-- Numbers below, above and greatest of a list.
use Rattle.std.proofs.Common.{◌≡◌, ℕ, zero, suc, ◌<◌, ◌≤◌, Bool, true, false, ltb, List, [], ◌∷◌, ◌++◌, ◌&&◌, ◌||◌, refl, sym, arith, inl}
use Rattle.std.proofs.Common.{inr, ◌∙◌}
use Rattle.std.proofs.lemmas.Bool.{ltb-true, ltb-false, lt-ltb, le-ltb, or_right, ne_eqb}
use Rattle.std.specs.Ordering.{nat_cmp, eq_by_cmp}
use Rattle.std.specs.Cmp.{unsigned_tied}
use Rattle.nop_types.specs.Lists.{Has, IsGreatest, all_below, any_above}
use Rattle.lemmas.proofs.Members.{Has-append_left, Has-append_right, Has-append_cases, Has-one, Has-none}

-- ---- tests of each number

pub all_below-true : (ns : List ℕ) (n k : ℕ) → all_below ns n ≡ true → Has ns k → k < n
all_below-true [] n k t h = absurd (Has-none k h)
all_below-true (m ∷ ns) n k t h = here (ltb m n) refl t h (λ u g. all_below-true ns n k u g)
  where
    here : (b : Bool) → ltb m n ≡ b → (b && all_below ns n) ≡ true → Has (m ∷ ns) k → (all_below ns n ≡ true → Has ns k → k < n) → k < n
    here false e t h more = absurd cc
    here true e t (zero, g) more = let s : m ≡ k = cc in omega (arith, ltb-true m n e, s)
    here true e t (suc i, g) more = more t (i, g)

pub all_below-from : (ns : List ℕ) (n : ℕ) → ((k : ℕ) → Has ns k → k < n) → all_below ns n ≡ true
all_below-from [] n h = refl
all_below-from (m ∷ ns) n h = rw (lt-ltb m n (h m (zero, refl))) (all_below-from ns n (λ k g. h k (suc g.0, g.1)))

-- where the test fails, some number is as great
pub all_below-false : (ns : List ℕ) (n : ℕ) → all_below ns n ≡ false → (k : ℕ) × Has ns k × (n ≤ k)
all_below-false [] n t = absurd cc
all_below-false (m ∷ ns) n t = here (ltb m n) refl t (λ u. all_below-false ns n u)
  where
    here : (b : Bool) → ltb m n ≡ b → (b && all_below ns n) ≡ false
        → (all_below ns n ≡ false → (k : ℕ) × Has ns k × (n ≤ k)) → (k : ℕ) × Has (m ∷ ns) k × (n ≤ k)
    here false e t more = (m, (zero, refl), ltb-false m n e)
    here true e t more = let r = more t in (r.0, (suc r.1.0, r.1.1), r.2)

pub any_above-false : (ns : List ℕ) (n k : ℕ) → any_above ns n ≡ false → Has ns k → k ≤ n
any_above-false [] n k t h = absurd (Has-none k h)
any_above-false (m ∷ ns) n k t h = here (ltb n m) refl t h (λ u g. any_above-false ns n k u g)
  where
    here : (b : Bool) → ltb n m ≡ b → (b || any_above ns n) ≡ false → Has (m ∷ ns) k → (any_above ns n ≡ false → Has ns k → k ≤ n) → k ≤ n
    here true e t h more = absurd cc
    here false e t (zero, g) more = let s : m ≡ k = cc in omega (arith, ltb-false n m e, s)
    here false e t (suc i, g) more = more t (i, g)

pub any_above-true : (ns : List ℕ) (n : ℕ) → any_above ns n ≡ true → (k : ℕ) × Has ns k × (n < k)
any_above-true [] n t = absurd cc
any_above-true (m ∷ ns) n t = here (ltb n m) refl t (λ u. any_above-true ns n u)
  where
    here : (b : Bool) → ltb n m ≡ b → (b || any_above ns n) ≡ true
        → (any_above ns n ≡ true → (k : ℕ) × Has ns k × (n < k)) → (k : ℕ) × Has (m ∷ ns) k × (n < k)
    here true e t more = (m, (zero, refl), ltb-true n m e)
    here false e t more = let r = more t in (r.0, (suc r.1.0, r.1.1), r.2)

pub any_above-from : (ns : List ℕ) (n k : ℕ) → Has ns k → n < k → any_above ns n ≡ true
any_above-from [] n k h l = absurd (Has-none k h)
any_above-from (m ∷ ns) n k (zero, e) l = let same : m ≡ k = cc in rw (same, lt-ltb n k l) refl
any_above-from (m ∷ ns) n k (suc i, e) l = or_right (ltb n m) (any_above ns n) (any_above-from ns n k (i, e) l)

-- ---- the greatest

-- one more number, above all before
pub IsGreatest-push : (ns : List ℕ) (n : ℕ) → all_below ns n ≡ true → IsGreatest (ns ++ n ∷ []) n
IsGreatest-push ns n t = record {
  has = Has-append_right ns (n ∷ []) n (zero, refl);
  most = λ k h. elim (Has-append_cases ns (n ∷ []) k h) [
    | inl l ↦ omega (arith, all_below-true ns n k t l)
    | inr r ↦ omega (arith, Has-one k n r)
  ];
}

-- one more number, not above all before
pub IsGreatest-push_old : (ns : List ℕ) (n g : ℕ) → all_below ns n ≡ false → IsGreatest ns g → IsGreatest (ns ++ n ∷ []) g
IsGreatest-push_old ns n g t h = let low = all_below-false ns n t in record {
  has = Has-append_left ns (n ∷ []) g h.has;
  most = λ k m. elim (Has-append_cases ns (n ∷ []) k m) [
    | inl l ↦ h.most k l
    | inr r ↦ omega (arith, Has-one k n r, low.2, h.most low.0 low.1)
  ];
}

-- the test of all is the test of the greatest
pub all_below-greatest : (ns : List ℕ) (g n : ℕ) → IsGreatest ns g → all_below ns n ≡ ltb g n
all_below-greatest ns g n h = here (all_below ns n) refl
  where
    here : (b : Bool) → all_below ns n ≡ b → b ≡ ltb g n
    here true e = sym (lt-ltb g n (all_below-true ns n g e h.has))
    here false e = let low = all_below-false ns n e in sym (le-ltb g n (omega (arith, low.2, h.most low.0 low.1)))

pub IsGreatest-unique : (ns : List ℕ) (g h : ℕ) → IsGreatest ns g → IsGreatest ns h → g ≡ h
IsGreatest-unique ns g h p q = omega (arith, p.most h q.has, q.most g p.has)

-- ---- keys

pub not_tied : (q k : ℕ) → (q ≡ k → ⊥) → eq_by_cmp nat_cmp q k ≡ false
not_tied q k d = unsigned_tied q k ∙ ne_eqb q k d
