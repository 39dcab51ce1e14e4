-- What an account has of its client's ids, and one result more.
use Rattle.std.proofs.Common.{◌≡◌, ℕ, ◌+◌, ◌<◌, ◌≤◌, Bool, true, false, not, cond, eqb, List, [], ◌∷◌, ◌++◌, Option, Some, None, is_some}
use Rattle.std.proofs.Common.{refl, sym, ap, subst, ◌∙◌, arith, inl, inr, max}
use Rattle.std.specs.Prelude.{◌&&◌, ◌||◌, ◌⊎◌, nat_lt}
use Rattle.std.specs.List.{AllByRecursion}
use Rattle.std.specs.List.Sorted.{IsStrictlySortedBy}
use Rattle.std.specs.FinMap as finite
use Rattle.std.specs.Cmp.{nat_cmp_is, unsigned_tied}
use Rattle.std.specs.Ordering.{nat_cmp, eq_by_cmp}
use Rattle.std.specs.declared.cmp.Ordering.TheVariants.{Less}
use Rattle.std.proofs.Math.Bool.{or-false}
use Rattle.std.proofs.lemmas.Bool.{and_parts, and_cases, and_right, or_cases, or_left, or_right, or_parts, not-true, not-false}
use Rattle.std.proofs.lemmas.Bool.{eq-eqb, eqb-true, eqb-false, ltb-true, ltb-false, lt-ltb}
use Rattle.std.proofs.lemmas.Cmp.{nat_cmp_total, eq_by_cmp_equiv}
use Rattle.std.proofs.lemmas.Map.Keys.{IsStrictlyIncreasing-from_sorted}
use Rattle.nop_types.specs.Lists.{IsGreatest, is_in}
use Rattle.nop_types.specs.Windows.{greatest, is_new}
use Rattle.nop_types.specs.declared.checkpoint.Answered.{Answered}
use Rattle.nop_types.specs.Tables.{Account, Table, kept_for, kept_ids, result_in, result_kept, is_new_to, with_answered, within}
use Rattle.nop_types.specs.Tables.{account_with}
use Rattle.lemmas.proofs.Kept.{in_with, in_within}
use Rattle.execution_laws.specs.Execution.{IsAccountOf}
use Rattle.execution_laws.proofs.Windows.{is_in-push, has-is_in, greatest_is, IsGreatest-one, IsGreatest-more}

-- ---- the table as a map

tied : (client q : ℕ) → eq_by_cmp nat_cmp q client ≡ eqb client q
tied client q = (eq_by_cmp_equiv nat_cmp_total).symm q client ∙ unsigned_tied client q

pub kept_for-insert : (table : Table) (c : ℕ) (a : Account) (q : ℕ)
    → kept_for (finite.insert table c a) q ≡ cond (eqb c q) (Some a) (kept_for table q)
kept_for-insert table c a q =
    finite.get-insert nat_cmp_total table c a q ∙ ap (λ (b : Bool). cond b (Some a) (kept_for table q)) (tied c q)

-- ---- ids that ascend

abbrev Ascends : List ℕ → Type 0
Ascends [] = Unit {0}
Ascends (k ∷ ks) = ((j : ℕ) → is_in ks j ≡ true → k < j) × Ascends ks

with_ascends : (a : Answered) (kept : List Answered) → is_in (kept_ids kept) a.id ≡ false → Ascends (kept_ids kept)
    → Ascends (kept_ids (with_answered a kept))
with_ascends a [] new up = (λ j h. absurd cc, tt)
with_ascends a (b ∷ kept) new up =
    on (nat_lt a.id b.id) refl (with_ascends a kept (or_parts (eqb b.id a.id) (is_in (kept_ids kept) a.id) new).1 up.1)
  where
    other : b.id ≡ a.id → ⊥
    other = eqb-false b.id a.id (or_parts (eqb b.id a.id) (is_in (kept_ids kept) a.id) new).0

    on : (t : Bool) → nat_lt a.id b.id ≡ t → Ascends (kept_ids (with_answered a kept))
        → Ascends (kept_ids (cond t (a ∷ b ∷ kept) (b ∷ with_answered a kept)))
    on true e rest = (above, up)
      where
        above : (j : ℕ) → (eqb b.id j || is_in (kept_ids kept) j) ≡ true → a.id < j
        above j h =
            let low : a.id < b.id = ltb-true a.id b.id e in
            elim (or_cases (eqb b.id j) (is_in (kept_ids kept) j) h) [
              | inl p ↦ let same : b.id ≡ j = eqb-true b.id j p in omega arith
              | inr p ↦ let more : b.id < j = up.0 j p in omega arith
            ]
    on false e rest = (above, rest)
      where
        above : (j : ℕ) → is_in (kept_ids (with_answered a kept)) j ≡ true → b.id < j
        above j h =
            let high : b.id ≤ a.id = ltb-false a.id b.id e in
            let apart : b.id < a.id = omega (arith, high, other) in
            elim (or_cases (eqb a.id j) (is_in (kept_ids kept) j) (sym (in_with a kept j) ∙ h)) [
              | inl p ↦ let same : a.id ≡ j = eqb-true a.id j p in omega arith
              | inr p ↦ up.0 j p
            ]

within_ascends : (w g : ℕ) (kept : List Answered) → Ascends (kept_ids kept) → Ascends (kept_ids (within w g kept))
within_ascends w g [] up = tt
within_ascends w g (a ∷ kept) up = on (nat_lt g (a.id + w)) (within_ascends w g kept up.1)
  where
    on : (t : Bool) → Ascends (kept_ids (within w g kept)) → Ascends (kept_ids (cond t (a ∷ within w g kept) (within w g kept)))
    on true rest =
        (λ j h. up.0 j (and_parts (is_in (kept_ids kept) j) (nat_lt g (j + w)) (sym (in_within w g kept j) ∙ h)).0, rest)
    on false rest = rest

-- in std's word
less : (k j : ℕ) → k < j → nat_cmp k j ≡ Less
less k j l = sym (nat_cmp_is k j Less l)

each_above : (k : ℕ) (ks : List ℕ) → ((j : ℕ) → is_in ks j ≡ true → k < j) → AllByRecursion (λ j. nat_cmp k j ≡ Less) ks
each_above k [] h = tt
each_above k (j ∷ ks) h =
    (less k j (h j (or_left (eqb j j) (is_in ks j) (eq-eqb j j refl))), each_above k ks (λ i g. h i (or_right (eqb j i) (is_in ks i) g)))

sorted : (ks : List ℕ) → Ascends ks → IsStrictlySortedBy nat_cmp ks
unfolding IsStrictlySortedBy
sorted [] up = tt
sorted (k ∷ ks) up = (each_above k ks up.0, sorted ks up.1)

-- ---- an account of a client's ids

module _ (w : ℕ) where
  pub record Holds (ids : List ℕ) (a : Account) : Type 0 where
    pub greatest : IsGreatest ids a.greatest
    pub kept : (id : ℕ) → is_in (kept_ids a.kept) id ≡ (is_in ids id && nat_lt a.greatest (id + w))
    pub ascends : Ascends (kept_ids a.kept)

  pub account_of : (ids : List ℕ) (a : Account) → Holds ids a → IsAccountOf w ids a
  account_of ids a h = record {
    greatest = h.greatest;
    kept = h.kept;
    ascending = IsStrictlyIncreasing-from_sorted (kept_ids a.kept) (sorted (kept_ids a.kept) h.ascends);
  }

  -- the account tells whether an id is new
  pub account_tells_new : (ids : List ℕ) (a : Account) → Holds ids a → (id : ℕ) → is_new_to w (Some a) id ≡ is_new w ids id
  account_tells_new ids a h id =
      ap (λ (b : Bool). nat_lt a.greatest (id + w) && not b) (h.kept id)
      ∙ (once (nat_lt a.greatest (id + w)) (is_in ids id)
      ∙ ap (λ (g : ℕ). nat_lt g (id + w) && not (is_in ids id)) (sym (greatest_is ids a.greatest h.greatest)))
    where
      once : (x y : Bool) → (x && not (y && x)) ≡ (x && not y)
      once true true = refl
      once true false = refl
      once false y = refl

  -- of the first id
  pub first_holds : 1 ≤ w → (a : Answered) → Holds (a.id ∷ []) (account_with w None a)
  first_holds low a = record {
    greatest = IsGreatest-one a.id;
    kept = λ id. on id (eqb a.id id) refl;
    ascends = (λ j h. absurd cc, tt);
  }
    where
      on : (id : ℕ) (b : Bool) → eqb a.id id ≡ b → (b || false) ≡ ((b || false) && nat_lt a.id (id + w))
      on id true e = let same : a.id ≡ id = eqb-true a.id id e in sym (lt-ltb a.id (id + w) (omega arith))
      on id false e = refl

  -- with one more result
  pub more_holds : (ids : List ℕ) (old : Account) (a : Answered) → Holds ids old → is_new_to w (Some old) a.id ≡ true
      → Holds (ids ++ a.id ∷ []) (account_with w (Some old) a)
  more_holds ids old a h new = record {
    greatest = IsGreatest-more ids a.id old.greatest h.greatest;
    kept = λ id.
        in_within w (max old.greatest a.id) (with_answered a old.kept) id
        ∙ (ap (λ (b : Bool). b && nat_lt (max old.greatest a.id) (id + w))
        (in_with a old.kept id ∙ ap (λ (b : Bool). eqb a.id id || b) (h.kept id))
        ∙ (same (eqb a.id id) (is_in ids id) (nat_lt old.greatest (id + w)) (nat_lt (max old.greatest a.id) (id + w)) (nearer id)
        ∙ ap (λ (b : Bool). b && nat_lt (max old.greatest a.id) (id + w)) (sym (is_in-push ids a.id id))));
    ascends = within_ascends w (max old.greatest a.id) (with_answered a old.kept) (with_ascends a old.kept fresh h.ascends);
  }
    where
      fresh : is_in (kept_ids old.kept) a.id ≡ false
      fresh =
          not-true (is_in (kept_ids old.kept) a.id)
          (and_parts (nat_lt old.greatest (a.id + w)) (not (is_in (kept_ids old.kept) a.id)) new).1

      nearer : (id : ℕ) → nat_lt (max old.greatest a.id) (id + w) ≡ true → nat_lt old.greatest (id + w) ≡ true
      nearer id e =
          let l : max old.greatest a.id < id + w = ltb-true (max old.greatest a.id) (id + w) e in
          lt-ltb old.greatest (id + w) (omega arith)

      same : (x y u v : Bool) → (v ≡ true → u ≡ true) → ((x || (y && u)) && v) ≡ ((y || x) && v)
      same x y u false f = and_right (x || (y && u)) false refl ∙ sym (and_right (y || x) false refl)
      same x y u true f = ap (λ (t : Bool). (x || (y && t)) && true) (f refl) ∙ turn x y
        where
          turn : (x y : Bool) → ((x || (y && true)) && true) ≡ ((y || x) && true)
          turn true true = refl
          turn true false = refl
          turn false true = refl
          turn false false = refl

  -- with one more id that is not new
  pub old_holds : (ids : List ℕ) (a : Account) (id : ℕ) → Holds ids a → is_new w ids id ≡ false → Holds (ids ++ id ∷ []) a
  old_holds ids a id h old = elim (and_cases (nat_lt (greatest ids) (id + w)) (not (is_in ids id)) old) [
    | inl far ↦
        let g : greatest ids ≡ a.greatest = greatest_is ids a.greatest h.greatest in
        let high : id + w ≤ greatest ids = ltb-false (greatest ids) (id + w) far in
        with_old (omega arith) (λ k same. same_far k same (ap (λ (n : ℕ). nat_lt n (id + w)) (sym g) ∙ far))
    | inr there ↦
        let is : is_in ids id ≡ true = not-false (is_in ids id) there in
        with_old (h.greatest.most id (has-is_in ids id is))
        (λ k same. let e : is_in ids k ≡ true = ap (is_in ids) (sym same) ∙ is in
        ap (λ (b : Bool). (b || true) && nat_lt a.greatest (k + w)) e ∙ sym (ap (λ (b : Bool). b && nat_lt a.greatest (k + w)) e))
  ]
    where
      same_far : (k : ℕ) → id ≡ k → nat_lt a.greatest (id + w) ≡ false
          → ((is_in ids k || true) && nat_lt a.greatest (k + w)) ≡ (is_in ids k && nat_lt a.greatest (k + w))
      same_far k same far =
          let f : nat_lt a.greatest (k + w) ≡ false = ap (λ (n : ℕ). nat_lt a.greatest (n + w)) (sym same) ∙ far in
          and_right (is_in ids k || true) (nat_lt a.greatest (k + w)) f ∙ sym (and_right (is_in ids k) (nat_lt a.greatest (k + w)) f)

      with_old : id ≤ a.greatest
          → ((k : ℕ) → id ≡ k → ((is_in ids k || true) && nat_lt a.greatest (k + w)) ≡ (is_in ids k && nat_lt a.greatest (k + w)))
          → Holds (ids ++ id ∷ []) a
      with_old low same = record {
        greatest =
            let top : max a.greatest id ≡ a.greatest = omega arith in
            subst (IsGreatest (ids ++ id ∷ [])) top (IsGreatest-more ids id a.greatest h.greatest);
        kept = λ k.
            h.kept k
            ∙ sym (ap (λ (b : Bool). b && nat_lt a.greatest (k + w)) (is_in-push ids id k) ∙ on k (eqb id k) refl);
        ascends = h.ascends;
      }
        where
          on : (k : ℕ) (b : Bool) → eqb id k ≡ b
              → ((is_in ids k || b) && nat_lt a.greatest (k + w)) ≡ (is_in ids k && nat_lt a.greatest (k + w))
          on k true e = same k (eqb-true id k e)
          on k false e = ap (λ (b : Bool). b && nat_lt a.greatest (k + w)) (or-false (is_in ids k))

-- ---- the results that are kept

pub has_result : (kept : List Answered) (id : ℕ) → is_some (result_in kept id) ≡ is_in (kept_ids kept) id
has_result [] id = refl
has_result (a ∷ kept) id = on (eqb a.id id) (has_result kept id)
  where
    on : (b : Bool) → is_some (result_in kept id) ≡ is_in (kept_ids kept) id
        → is_some (cond b (Some a.result) (result_in kept id)) ≡ (b || is_in (kept_ids kept) id)
    on true rest = refl
    on false rest = rest

result_within : (w g : ℕ) (kept : List Answered) (id : ℕ)
    → result_in (within w g kept) id ≡ cond (nat_lt g (id + w)) (result_in kept id) None
result_within w g [] id = on (nat_lt g (id + w))
  where
    on : (b : Bool) → result_in [] id ≡ cond b (result_in [] id) None
    on true = refl
    on false = refl
result_within w g (a ∷ kept) id = on (nat_lt g (a.id + w)) (eqb a.id id) refl refl (result_within w g kept id)
  where
    on : (t u : Bool) → nat_lt g (a.id + w) ≡ t → eqb a.id id ≡ u
        → result_in (within w g kept) id ≡ cond (nat_lt g (id + w)) (result_in kept id) None
        → result_in (cond t (a ∷ within w g kept) (within w g kept)) id
        ≡ cond (nat_lt g (id + w)) (cond u (Some a.result) (result_in kept id)) None
    on true true p q rest =
        let same : a.id ≡ id = eqb-true a.id id q in
        let near : nat_lt g (id + w) ≡ true = ap (λ (n : ℕ). nat_lt g (n + w)) (sym same) ∙ p in
        ap (λ (b : Bool). cond b (Some a.result) (result_in (within w g kept) id)) q
        ∙ sym (ap (λ (b : Bool). cond b (Some a.result) None) near)
    on true false p q rest = ap (λ (b : Bool). cond b (Some a.result) (result_in (within w g kept) id)) q ∙ rest
    on false true p q rest =
        let same : a.id ≡ id = eqb-true a.id id q in
        let far : nat_lt g (id + w) ≡ false = ap (λ (n : ℕ). nat_lt g (n + w)) (sym same) ∙ p in
        rest ∙ (ap (λ (b : Bool). cond b (result_in kept id) None) far ∙ sym (ap (λ (b : Bool). cond b (Some a.result) None) far))
    on false false p q rest = rest

result_with : (a : Answered) (kept : List Answered) (id : ℕ) → is_in (kept_ids kept) a.id ≡ false
    → result_in (with_answered a kept) id ≡ cond (eqb a.id id) (Some a.result) (result_in kept id)
result_with a [] id new = refl
result_with a (b ∷ kept) id new =
    on (nat_lt a.id b.id) (result_with a kept id (or_parts (eqb b.id a.id) (is_in (kept_ids kept) a.id) new).1)
  where
    turn : (t u : Bool) → eqb b.id id ≡ t → eqb a.id id ≡ u
        → cond t (Some b.result) (cond u (Some a.result) (result_in kept id))
        ≡ cond u (Some a.result) (cond t (Some b.result) (result_in kept id))
    turn true true p q =
        absurd (eqb-false b.id a.id (or_parts (eqb b.id a.id) (is_in (kept_ids kept) a.id) new).0
        (eqb-true b.id id p ∙ sym (eqb-true a.id id q)))
    turn true false p q = refl
    turn false u p q = refl

    on : (t : Bool) → result_in (with_answered a kept) id ≡ cond (eqb a.id id) (Some a.result) (result_in kept id)
        → result_in (cond t (a ∷ b ∷ kept) (b ∷ with_answered a kept)) id
        ≡ cond (eqb a.id id) (Some a.result) (cond (eqb b.id id) (Some b.result) (result_in kept id))
    on true rest = refl
    on false rest = ap (λ (o : Option (List ℕ)). cond (eqb b.id id) (Some b.result) o) rest ∙ turn (eqb b.id id) (eqb a.id id) refl refl

-- a result that is new to an account is kept
pub new_result_is_kept : (w : ℕ) → 1 ≤ w → (o : Option Account) (a : Answered) → is_new_to w o a.id ≡ true
    → result_kept (Some (account_with w o a)) a.id ≡ Some a.result
new_result_is_kept w low None a new = ap (λ (b : Bool). cond b (Some a.result) None) (eq-eqb a.id a.id refl)
new_result_is_kept w low (Some old) a new =
    let p = and_parts (nat_lt old.greatest (a.id + w)) (not (is_in (kept_ids old.kept) a.id)) new in
    let before : old.greatest < a.id + w = ltb-true old.greatest (a.id + w) p.0 in
    let near : nat_lt (max old.greatest a.id) (a.id + w) ≡ true = lt-ltb (max old.greatest a.id) (a.id + w) (omega arith) in
    result_within w (max old.greatest a.id) (with_answered a old.kept) a.id
    ∙ (ap (λ (b : Bool). cond b (result_in (with_answered a old.kept) a.id) None) near
    ∙ (result_with a old.kept a.id (not-true (is_in (kept_ids old.kept) a.id) p.1)
    ∙ ap (λ (b : Bool). cond b (Some a.result) (result_in old.kept a.id)) (eq-eqb a.id a.id refl)))

-- a kept result is the new one, or was kept before
pub record IsThis (a : Answered) (id : ℕ) (result : List ℕ) : Type 0 where
  pub same_id : a.id ≡ id
  pub same_result : a.result ≡ result

new_or_kept : (a : Answered) (kept : List Answered) (id : ℕ) (result : List ℕ) → result_in (with_answered a kept) id ≡ Some result
    → IsThis a id result ⊎ (result_in kept id ≡ Some result)
new_or_kept a [] id result h = on (eqb a.id id) refl h
  where
    on : (b : Bool) → eqb a.id id ≡ b → cond b (Some a.result) None ≡ Some result → IsThis a id result ⊎ (None ≡ Some result)
    on true e g = inl (record { same_id = eqb-true a.id id e; same_result = cc })
    on false e g = inr g
new_or_kept a (b ∷ kept) id result h = on (nat_lt a.id b.id) h (λ g. new_or_kept a kept id result g)
  where
    first : (t : Bool) → eqb a.id id ≡ t → cond t (Some a.result) (result_in (b ∷ kept) id) ≡ Some result
        → IsThis a id result ⊎ (result_in (b ∷ kept) id ≡ Some result)
    first true e g = inl (record { same_id = eqb-true a.id id e; same_result = cc })
    first false e g = inr g

    later : (t : Bool) → cond t (Some b.result) (result_in (with_answered a kept) id) ≡ Some result
        → (result_in (with_answered a kept) id ≡ Some result → IsThis a id result ⊎ (result_in kept id ≡ Some result))
        → IsThis a id result ⊎ (cond t (Some b.result) (result_in kept id) ≡ Some result)
    later true g more = inr g
    later false g more = more g

    on : (t : Bool) → result_in (cond t (a ∷ b ∷ kept) (b ∷ with_answered a kept)) id ≡ Some result
        → (result_in (with_answered a kept) id ≡ Some result → IsThis a id result ⊎ (result_in kept id ≡ Some result))
        → IsThis a id result ⊎ (result_in (b ∷ kept) id ≡ Some result)
    on true g more = first (eqb a.id id) refl g
    on false g more = later (eqb b.id id) g more

pub kept_is_new_or_old : (w : ℕ) (o : Option Account) (a : Answered) (id : ℕ) (result : List ℕ)
    → result_kept (Some (account_with w o a)) id ≡ Some result → IsThis a id result ⊎ (result_kept o id ≡ Some result)
kept_is_new_or_old w None a id result h = on (eqb a.id id) refl h
  where
    on : (b : Bool) → eqb a.id id ≡ b → cond b (Some a.result) None ≡ Some result → IsThis a id result ⊎ (None ≡ Some result)
    on true e g = inl (record { same_id = eqb-true a.id id e; same_result = cc })
    on false e g = inr g
kept_is_new_or_old w (Some old) a id result h =
    new_or_kept a old.kept id result
    (on (nat_lt (max old.greatest a.id) (id + w)) (sym (result_within w (max old.greatest a.id) (with_answered a old.kept) id) ∙ h))
  where
    on : (b : Bool) → cond b (result_in (with_answered a old.kept) id) None ≡ Some result
        → result_in (with_answered a old.kept) id ≡ Some result
    on true g = g
    on false g = absurd cc
