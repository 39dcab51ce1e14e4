-- Windows of ids: which ids are new, and which are stale.
use Rattle.std.proofs.Common.{◌≡◌, ℕ, zero, suc, ◌+◌, ◌≤◌, ◌<◌, Bool, true, false, not, eqb, List, [], ◌∷◌, ◌++◌, refl, ap, ◌∙◌, arith, inl, inr}
use Rattle.std.proofs.Common.{max}
use Rattle.std.specs.Prelude.{◌&&◌, ◌||◌, ◌⊎◌, nat_lt, nat_le}
use Rattle.std.proofs.Math.Bool.{or-false}
use Rattle.std.proofs.lemmas.Bool.{cases_lt, and_left, and_right, eq-eqb, eqb-true, or_right}
use Rattle.std.proofs.lemmas.Bool.Decides.{nat_tests}
use Rattle.std.proofs.lemmas.List.Folds.{list_any-append}
use Rattle.nop_types.specs.Lists.{Has, IsGreatest, is_in, all_below, any_above}
use Rattle.nop_types.specs.Windows.{greatest, is_stale, is_new}
use Rattle.lemmas.proofs.Members.{Has-append_left, Has-push, Has-push_cases}

-- ---- which numbers a list has

pub is_in-push : (ns : List ℕ) (n k : ℕ) → is_in (ns ++ n ∷ []) k ≡ (is_in ns k || eqb n k)
is_in-push ns n k = list_any-append (λ j. eqb j k) ns (n ∷ []) ∙ ap (λ (b : Bool). is_in ns k || b) (or-false (eqb n k))

pub is_in-has : (ns : List ℕ) (k : ℕ) → Has ns k → is_in ns k ≡ true
is_in-has [] k h = absurd (let e = h.1 in cc)
is_in-has (n ∷ ns) k (zero, e) = let same : n ≡ k = cc in ap (λ (b : Bool). b || is_in ns k) (eq-eqb n k same)
is_in-has (n ∷ ns) k (suc i, e) = or_right (eqb n k) (is_in ns k) (is_in-has ns k (i, e))

pub has-is_in : (ns : List ℕ) (k : ℕ) → is_in ns k ≡ true → Has ns k
has-is_in [] k h = absurd cc
has-is_in (n ∷ ns) k h = here (eqb n k) refl h (λ g. has-is_in ns k g)
  where
    here : (b : Bool) → eqb n k ≡ b → (b || is_in ns k) ≡ true → (is_in ns k ≡ true → Has ns k) → Has (n ∷ ns) k
    here true e g more = (zero, let same = eqb-true n k e in cc)
    here false e g more = let r = more g in (suc r.0, r.1)

-- ---- the greatest of them

pub greatest-push : (ns : List ℕ) (n : ℕ) → greatest (ns ++ n ∷ []) ≡ max (greatest ns) n
greatest-push [] n = omega arith
greatest-push (k ∷ ns) n = let r = greatest-push ns n in omega arith

pub at_most_greatest : (ns : List ℕ) (k : ℕ) → Has ns k → k ≤ greatest ns
at_most_greatest [] k h = absurd (let e = h.1 in cc)
at_most_greatest (n ∷ ns) k (zero, e) = let same : n ≡ k = cc in omega arith
at_most_greatest (n ∷ ns) k (suc i, e) = let r = at_most_greatest ns k (i, e) in omega arith

greatest_within : (ns : List ℕ) (g : ℕ) → ((k : ℕ) → Has ns k → k ≤ g) → greatest ns ≤ g
greatest_within [] g h = omega arith
greatest_within (n ∷ ns) g h =
    let first : n ≤ g = h n (zero, refl) in
    let rest : greatest ns ≤ g = greatest_within ns g (λ k i. h k (suc i.0, i.1)) in
    omega arith

pub greatest_is : (ns : List ℕ) (g : ℕ) → IsGreatest ns g → greatest ns ≡ g
greatest_is ns g is =
    let low : greatest ns ≤ g = greatest_within ns g is.most in
    let high : g ≤ greatest ns = at_most_greatest ns g is.has in
    omega arith

pub IsGreatest-one : (n : ℕ) → IsGreatest (n ∷ []) n
IsGreatest-one n = record { has = (zero, refl); most = most }
  where
    most : (k : ℕ) → Has (n ∷ []) k → k ≤ n
    most k (zero, e) = let same : n ≡ k = cc in omega arith
    most k (suc i, e) = absurd cc

pub IsGreatest-more : (ns : List ℕ) (n g : ℕ) → IsGreatest ns g → IsGreatest (ns ++ n ∷ []) (max g n)
IsGreatest-more ns n g is = record {
  has = elim (order g n) [
    | inl low ↦ rw (low.1) (Has-push ns n)
    | inr high ↦ rw (high.1) (Has-append_left ns (n ∷ []) g is.has)
  ];
  most = λ k h. elim (Has-push_cases ns n k h) [
    | inl old ↦ let l = is.most k old in omega arith
    | inr same ↦ omega arith
  ];
}
  where
    order : (g n : ℕ) → ((g ≤ n) × (max g n ≡ n)) ⊎ ((n ≤ g) × (max g n ≡ g))
    order g n = elim (cases_lt g n) [
      | inl low ↦ inl (omega arith, omega arith)
      | inr high ↦ inr (high, omega arith)
    ]

-- ---- new ids, and stale ones

-- the first id is new
pub is_new-first : (w id : ℕ) → 1 ≤ w → is_new w [] id ≡ true
is_new-first w id low = let e : nat_lt 0 (id + w) ≡ true = grind (arith, nat_tests) in ap (λ (b : Bool). b && true) e

pub repeated_is_old : (w : ℕ) (ids : List ℕ) (id : ℕ) → Has ids id → is_new w ids id ≡ false
repeated_is_old w ids id h = and_right (nat_lt (greatest ids) (id + w)) (not (is_in ids id)) (ap not (is_in-has ids id h))

pub stale_is_old : (w : ℕ) (ids : List ℕ) (id k : ℕ) → Has ids k → id + w ≤ k → is_new w ids id ≡ false
stale_is_old w ids id k h l =
    let high : k ≤ greatest ids = at_most_greatest ids k h in
    let e : nat_lt (greatest ids) (id + w) ≡ false = grind (arith, nat_tests) in
    and_left (nat_lt (greatest ids) (id + w)) (not (is_in ids id)) e

-- an id is as stale with itself among those before
pub stale_with_itself : (w : ℕ) (ids : List ℕ) (id : ℕ) → 1 ≤ w → is_stale w (ids ++ id ∷ []) id ≡ is_stale w ids id
stale_with_itself w ids id low = ap (nat_le (id + w)) (greatest-push ids id) ∙ same (greatest ids)
  where
    same : (g : ℕ) → nat_le (id + w) (max g id) ≡ nat_le (id + w) g
    same g = grind (arith, nat_tests)

-- nor is it stale where it is less than a window behind each of those before
pub near_is_not_stale : (w : ℕ) (ids : List ℕ) (id : ℕ) → 1 ≤ w → ((k : ℕ) → Has ids k → k < id + w) → is_stale w ids id ≡ false
near_is_not_stale zero ids id low near = absurd (omega (arith, low))
near_is_not_stale (suc v) ids id low near =
    let most : greatest ids ≤ id + v = greatest_within ids (id + v) (λ k h. (let less : k < id + suc v = near k h in omega (arith, less))) in
    grind (arith, nat_tests)

-- and it is where one of them is a window ahead, or more
pub far_is_stale : (w : ℕ) (ids : List ℕ) (id k : ℕ) → Has ids k → id + w ≤ k → is_stale w ids id ≡ true
far_is_stale w ids id k h far = let high : k ≤ greatest ids = at_most_greatest ids k h in grind (arith, nat_tests)

-- what is not stale in the end was not stale before
pub not_stale_before : (w : ℕ) (ids more : List ℕ) (id : ℕ) → is_stale w (ids ++ more) id ≡ false → is_stale w ids id ≡ false
not_stale_before w ids more id fresh =
    below (greatest ids) (greatest (ids ++ more)) (id + w)
    (greatest_within ids (greatest (ids ++ more)) (λ k h. at_most_greatest (ids ++ more) k (Has-append_left ids more k h))) fresh
  where
    below : (a b n : ℕ) → a ≤ b → nat_le n b ≡ false → nat_le n a ≡ false
    below a b n less e = grind (arith, nat_tests)

-- ---- with a window of one

one : (k g id : ℕ) (rest : Bool)
    → (nat_lt (max k g) (id + 1) && not (eqb k id || rest)) ≡ (nat_lt k id && (nat_lt g (id + 1) && not rest))
one k g id true = grind (arith, nat_tests)
one k g id false = grind (arith, nat_tests)

pub one_is_greatest : (ids : List ℕ) (id : ℕ) → is_new 1 ids id ≡ all_below ids id
one_is_greatest [] id = grind (arith, nat_tests)
one_is_greatest (k ∷ ks) id =
    one k (greatest ks) id (is_in ks id) ∙ ap (λ (b : Bool). nat_lt k id && b) (one_is_greatest ks id)

one_stale : (k g id : ℕ) → nat_le (id + 1) (max k g) ≡ (nat_lt id k || nat_le (id + 1) g)
one_stale k g id = grind (arith, nat_tests)

pub one_is_stale : (ids : List ℕ) (id : ℕ) → is_stale 1 ids id ≡ any_above ids id
one_is_stale [] id = grind (arith, nat_tests)
one_is_stale (k ∷ ks) id = one_stale k (greatest ks) id ∙ ap (λ (b : Bool). nat_lt id k || b) (one_is_stale ks id)
