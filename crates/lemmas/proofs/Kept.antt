-- The results that are kept for a client: ids ascend within the window, and the greatest one is the last. One result more, and one less.
-- And what a checkpoint asks of them besides: ids from 1, and short results.
use Rattle.std.proofs.Common.{◌≡◌, ℕ, suc, ◌+◌, ◌-◌, ◌<◌, ◌≤◌, Bool, true, false, not, cond, eqb, List, [], ◌∷◌, ◌++◌, length, max, Option, Some, None}
use Rattle.std.proofs.Common.{refl, sym, ap, ◌∙◌, arith, inl, inr}
use Rattle.std.specs.Prelude.{◌&&◌, ◌||◌, ◌⊎◌, ◌==◌, ⊤, nat_le, nat_lt, filter, IfSome, count_by, take, drop, insert}
use Rattle.std.specs.List.{position_from}
use Rattle.std.proofs.lemmas.List.Recursion.{is_count_by}
use Rattle.std.specs.Option.{unwrap_or}
use Rattle.std.proofs.lemmas.Bool.{and_parts, and_from, and_right, or_cases, or_left, or_right, or_parts, not-true, eq-eqb, eqb-true, eqb-false}
use Rattle.std.proofs.lemmas.Bool.{ltb-true, ltb-false, lt-ltb, le-ltb, leb-true, le-leb}
use Rattle.nop_types.specs.declared.limits.TheConstants.{WINDOW, MAX_RESULT_BYTES}
use Rattle.nop_types.specs.Lists.{is_in}
use Rattle.nop_types.specs.declared.checkpoint.Answered.{Answered}
use Rattle.nop_types.specs.Tables.{Account, kept_ids, result_in, is_new_to, with_answered, within, beyond, without, account_with}
use Rattle.nop_types.specs.Checkpoints.{runs_to, least_kept, is_kept, is_answer, are_answers, is_account}

-- ---- which ids have a result

pub in_with : (a : Answered) (kept : List Answered) (k : ℕ)
    → is_in (kept_ids (with_answered a kept)) k ≡ (eqb a.id k || is_in (kept_ids kept) k)
in_with a [] k = refl
in_with a (b ∷ kept) k = on (nat_lt a.id b.id) (in_with a kept k)
  where
    turn : (x y z : Bool) → (x || (y || z)) ≡ (y || (x || z))
    turn true true z = refl
    turn true false z = refl
    turn false y z = refl

    on : (t : Bool) → is_in (kept_ids (with_answered a kept)) k ≡ (eqb a.id k || is_in (kept_ids kept) k)
        → is_in (kept_ids (cond t (a ∷ b ∷ kept) (b ∷ with_answered a kept))) k ≡ (eqb a.id k || (eqb b.id k || is_in (kept_ids kept) k))
    on true rest = refl
    on false rest = ap (λ (t : Bool). eqb b.id k || t) rest ∙ turn (eqb b.id k) (eqb a.id k) (is_in (kept_ids kept) k)

pub in_within : (w g : ℕ) (kept : List Answered) (k : ℕ)
    → is_in (kept_ids (within w g kept)) k ≡ (is_in (kept_ids kept) k && nat_lt g (k + w))
in_within w g [] k = refl
in_within w g (a ∷ kept) k = on (nat_lt g (a.id + w)) (eqb a.id k) refl refl (in_within w g kept k)
  where
    on : (t u : Bool) → nat_lt g (a.id + w) ≡ t → eqb a.id k ≡ u
        → is_in (kept_ids (within w g kept)) k ≡ (is_in (kept_ids kept) k && nat_lt g (k + w))
        → is_in (kept_ids (cond t (a ∷ within w g kept) (within w g kept))) k ≡ ((u || is_in (kept_ids kept) k) && nat_lt g (k + w))
    on true true p q rest =
        let same : a.id ≡ k = eqb-true a.id k q in
        ap (λ (b : Bool). b || is_in (kept_ids (within w g kept)) k) q ∙ sym (ap (λ (n : ℕ). nat_lt g (n + w)) (sym same) ∙ p)
    on true false p q rest = ap (λ (b : Bool). b || is_in (kept_ids (within w g kept)) k) q ∙ rest
    on false true p q rest =
        let same : a.id ≡ k = eqb-true a.id k q in
        let far : nat_lt g (k + w) ≡ false = ap (λ (n : ℕ). nat_lt g (n + w)) (sym same) ∙ p in
        rest ∙ and_right (is_in (kept_ids kept) k) (nat_lt g (k + w)) far ∙ sym far
    on false false p q rest = rest

-- ---- ids that ascend from a number on

abbrev pub AscendFrom : ℕ → List Answered → Type 0
AscendFrom least [] = ⊤
AscendFrom least (a ∷ kept) = (least ≤ a.id) × AscendFrom (a.id + 1) kept

pub ascends : (g least : ℕ) (kept : List Answered) → runs_to g least kept ≡ true → AscendFrom least kept
ascends g least [] h = tt
ascends g least (a ∷ kept) h =
    let t = and_parts (nat_le least a.id) (runs_to g (a.id + 1) kept) h in
    (leb-true least a.id t.0, ascends g (a.id + 1) kept t.1)

-- there are no more of them than numbers
pub few : (g least : ℕ) (kept : List Answered) → runs_to g least kept ≡ true → length kept + least ≤ g + 1
few g least [] h = let same = eqb-true least (g + 1) h in omega (arith, same)
few g least (a ∷ kept) h =
    let t = and_parts (nat_le least a.id) (runs_to g (a.id + 1) kept) h in
    let low = leb-true least a.id t.0 in
    let rest = few g (a.id + 1) kept t.1 in
    omega (arith, low, rest)

-- one at least, and at most as many as the window is wide
pub kept_count : (a : Account) → is_kept a ≡ true → (1 ≤ length a.kept) × (length a.kept ≤ WINDOW)
kept_count a h = (some a.kept h, let most_there = few a.greatest (least_kept a.greatest) a.kept h in omega (arith, most_there))
  where
    some : (kept : List Answered) → runs_to a.greatest (least_kept a.greatest) kept ≡ true → 1 ≤ length kept
    some [] runs_there = absurd (let same = eqb-true (least_kept a.greatest) (a.greatest + 1) runs_there in omega (arith, same))
    some (k ∷ kept) runs_there = omega arith

pub most : (g least : ℕ) (kept : List Answered) → runs_to g least kept ≡ true → (k : ℕ) → is_in (kept_ids kept) k ≡ true → k ≤ g
most g least [] h k i = absurd cc
most g least (a ∷ kept) h k i =
    let t = and_parts (nat_le least a.id) (runs_to g (a.id + 1) kept) h in
    elim (or_cases (eqb a.id k) (is_in (kept_ids kept) k) i) [
      | inl same ↦ let e : a.id ≡ k = eqb-true a.id k same in let rest = few g (a.id + 1) kept t.1 in omega (arith, e, rest)
      | inr later ↦ most g (a.id + 1) kept t.1 k later
    ]

pub last : (g least : ℕ) (kept : List Answered) → runs_to g least kept ≡ true → least ≤ g → is_in (kept_ids kept) g ≡ true
last g least [] h low = absurd (let same = eqb-true least (g + 1) h in omega (arith, same, low))
last g least (a ∷ kept) h low = on (eqb a.id g) refl (last g (a.id + 1) kept t.1)
  where
    t : (nat_le least a.id ≡ true) × (runs_to g (a.id + 1) kept ≡ true)
    t = and_parts (nat_le least a.id) (runs_to g (a.id + 1) kept) h

    on : (b : Bool) → eqb a.id g ≡ b → (a.id + 1 ≤ g → is_in (kept_ids kept) g ≡ true) → (eqb a.id g || is_in (kept_ids kept) g) ≡ true
    on true e more = or_left (eqb a.id g) (is_in (kept_ids kept) g) e
    on false e more =
        let apart = eqb-false a.id g e in
        let rest = few g (a.id + 1) kept t.1 in
        or_right (eqb a.id g) (is_in (kept_ids kept) g) (more (omega (arith, apart, rest)))

-- and what ascends up to the greatest one, which is there, runs to it
pub runs : (g least : ℕ) (kept : List Answered) → AscendFrom least kept → ((k : ℕ) → is_in (kept_ids kept) k ≡ true → k ≤ g)
    → is_in (kept_ids kept) g ≡ true → runs_to g least kept ≡ true
runs g least [] up high has = absurd cc
runs g least (a ∷ []) up high has = elim (or_cases (eqb a.id g) false has) [
  | inl same ↦
      let e : a.id ≡ g = eqb-true a.id g same in
      and_from (nat_le least a.id) (a.id + 1 == g + 1) (le-leb least a.id up.0) (eq-eqb (a.id + 1) (g + 1) (omega (arith, e)))
  | inr none ↦ absurd cc
]
runs g least (a ∷ b ∷ kept) up high has =
    and_from (nat_le least a.id) (runs_to g (a.id + 1) (b ∷ kept)) (le-leb least a.id up.0)
    (runs g (a.id + 1) (b ∷ kept) up.1 (λ k i. high k (or_right (eqb a.id k) (is_in (kept_ids (b ∷ kept)) k) i)) later)
  where
    later : is_in (kept_ids (b ∷ kept)) g ≡ true
    later = elim (or_cases (eqb a.id g) (is_in (kept_ids (b ∷ kept)) g) has) [
      | inl same ↦
          let e : a.id ≡ g = eqb-true a.id g same in
          let low : a.id + 1 ≤ b.id = up.1.0 in
          let top : b.id ≤ g =
          high b.id (or_right (eqb a.id b.id) (is_in (kept_ids (b ∷ kept)) b.id)
          (or_left (eqb b.id b.id) (is_in (kept_ids kept) b.id) (eq-eqb b.id b.id refl))) in
          absurd (omega (arith, e, low, top))
      | inr there ↦ there
    ]

lower : (least less : ℕ) (kept : List Answered) → less ≤ least → AscendFrom least kept → AscendFrom less kept
lower least less [] h up = tt
lower least less (a ∷ kept) h up = (let low = up.0 in omega (arith, h, low), up.1)

raised : (least more : ℕ) (kept : List Answered) → ((k : ℕ) → is_in (kept_ids kept) k ≡ true → more ≤ k) → AscendFrom least kept
    → AscendFrom more kept
raised least more [] h up = tt
raised least more (a ∷ kept) h up =
    (h a.id (or_left (eqb a.id a.id) (is_in (kept_ids kept) a.id) (eq-eqb a.id a.id refl)), up.1)

with_ascends : (least : ℕ) (a : Answered) (kept : List Answered) → least ≤ a.id → is_in (kept_ids kept) a.id ≡ false
    → AscendFrom least kept → AscendFrom least (with_answered a kept)
with_ascends least a [] low new up = (low, tt)
with_ascends least a (b ∷ kept) low new up = on (nat_lt a.id b.id) refl (λ high. with_ascends (b.id + 1) a kept high parts.1 up.1)
  where
    parts : (eqb b.id a.id ≡ false) × (is_in (kept_ids kept) a.id ≡ false)
    parts = or_parts (eqb b.id a.id) (is_in (kept_ids kept) a.id) new

    on : (t : Bool) → nat_lt a.id b.id ≡ t → (b.id + 1 ≤ a.id → AscendFrom (b.id + 1) (with_answered a kept))
        → AscendFrom least (cond t (a ∷ b ∷ kept) (b ∷ with_answered a kept))
    on true e more = let less = ltb-true a.id b.id e in (low, (omega (arith, less), up.1))
    on false e more =
        let high = ltb-false a.id b.id e in
        let apart = eqb-false b.id a.id parts.0 in
        (up.0, more (omega (arith, high, apart)))

within_ascends : (w g least : ℕ) (kept : List Answered) → AscendFrom least kept → AscendFrom least (within w g kept)
within_ascends w g least [] up = tt
within_ascends w g least (a ∷ kept) up = on (nat_lt g (a.id + w)) (λ l u. within_ascends w g l kept u)
  where
    on : (t : Bool) → ((l : ℕ) → AscendFrom l kept → AscendFrom l (within w g kept)) → AscendFrom least (cond t (a ∷ within w g kept) (within w g kept))
    on true more = (up.0, more (a.id + 1) up.1)
    on false more = more least (lower (a.id + 1) least kept (let low = up.0 in omega (arith, low)) up.1)

-- ---- one result more

new_parts : (old : Account) (id : ℕ) → is_new_to WINDOW (Some old) id ≡ true
    → (old.greatest < id + WINDOW) × (is_in (kept_ids old.kept) id ≡ false)
new_parts old id h =
    let t = and_parts (nat_lt old.greatest (id + WINDOW)) (not (is_in (kept_ids old.kept) id)) h in
    (ltb-true old.greatest (id + WINDOW) t.0, not-true (is_in (kept_ids old.kept) id) t.1)

pub first_is_kept : (a : Answered) → is_kept (account_with WINDOW None a) ≡ true
first_is_kept a =
    and_from (nat_le (a.id + 1 - WINDOW) a.id) (a.id + 1 == a.id + 1) (le-leb (a.id + 1 - WINDOW) a.id (omega arith))
    (eq-eqb (a.id + 1) (a.id + 1) refl)

pub more_is_kept : (old : Account) (a : Answered) → is_kept old ≡ true → is_new_to WINDOW (Some old) a.id ≡ true
    → is_kept (account_with WINDOW (Some old) a) ≡ true
more_is_kept old a h new =
    runs g (least_kept g) now
    (raised 0 (least_kept g) now low (within_ascends WINDOW g 0 placed
    (with_ascends 0 a old.kept (omega arith) parts.1
    (lower (least_kept old.greatest) 0 old.kept (omega arith) (ascends old.greatest (least_kept old.greatest) old.kept h)))))
    high there
  where
    g : ℕ
    g = max old.greatest a.id

    placed : List Answered
    placed = with_answered a old.kept

    now : List Answered
    now = within WINDOW g placed

    parts : (old.greatest < a.id + WINDOW) × (is_in (kept_ids old.kept) a.id ≡ false)
    parts = new_parts old a.id new

    both : (k : ℕ) → is_in (kept_ids now) k ≡ true → (is_in (kept_ids placed) k ≡ true) × (nat_lt g (k + WINDOW) ≡ true)
    both k i = and_parts (is_in (kept_ids placed) k) (nat_lt g (k + WINDOW)) (sym (in_within WINDOW g placed k) ∙ i)

    low : (k : ℕ) → is_in (kept_ids now) k ≡ true → least_kept g ≤ k
    low k i = let near = ltb-true g (k + WINDOW) (both k i).1 in omega (arith, near)

    high : (k : ℕ) → is_in (kept_ids now) k ≡ true → k ≤ g
    high k i = elim (or_cases (eqb a.id k) (is_in (kept_ids old.kept) k) (sym (in_with a old.kept k) ∙ (both k i).0)) [
      | inl same ↦ let e : a.id ≡ k = eqb-true a.id k same in omega (arith, e)
      | inr before ↦ let top = most old.greatest (least_kept old.greatest) old.kept h k before in omega (arith, top)
    ]

    greatest_there : is_in (kept_ids placed) g ≡ true
    greatest_there = elim (lower_or_not old.greatest a.id) [
      | inl less ↦
          let e : a.id ≡ g = omega (arith, less) in
          in_with a old.kept g ∙ or_left (eqb a.id g) (is_in (kept_ids old.kept) g) (eq-eqb a.id g e)
      | inr more ↦
          let e : old.greatest ≡ g = omega (arith, more) in
          let was : is_in (kept_ids old.kept) old.greatest ≡ true =
          last old.greatest (least_kept old.greatest) old.kept h (omega arith) in
          in_with a old.kept g
          ∙ or_right (eqb a.id g) (is_in (kept_ids old.kept) g) (ap (is_in (kept_ids old.kept)) (sym e) ∙ was)
    ]
      where
        lower_or_not : (m n : ℕ) → (m < n) ⊎ (n ≤ m)
        lower_or_not m n = by (nat_lt m n) refl
          where
            by : (b : Bool) → nat_lt m n ≡ b → (m < n) ⊎ (n ≤ m)
            by true e = inl (ltb-true m n e)
            by false e = inr (ltb-false m n e)

    there : is_in (kept_ids now) g ≡ true
    there =
        in_within WINDOW g placed g
        ∙ and_from (is_in (kept_ids placed) g) (nat_lt g (g + WINDOW)) greatest_there (lt-ltb g (g + WINDOW) (omega arith))

-- ---- ids from 1, and short results

pub answer_is : (a : Answered) → 1 ≤ a.id → length a.result ≤ MAX_RESULT_BYTES → is_answer a ≡ true
answer_is a low short =
    and_from (nat_le 1 a.id) (nat_le (length a.result) MAX_RESULT_BYTES) (le-leb 1 a.id low)
    (le-leb (length a.result) MAX_RESULT_BYTES short)

pub answer_parts : (a : Answered) → is_answer a ≡ true → (1 ≤ a.id) × (length a.result ≤ MAX_RESULT_BYTES)
answer_parts a h =
    let t = and_parts (nat_le 1 a.id) (nat_le (length a.result) MAX_RESULT_BYTES) h in
    (leb-true 1 a.id t.0, leb-true (length a.result) MAX_RESULT_BYTES t.1)

answers_with : (a : Answered) (kept : List Answered) → is_answer a ≡ true → are_answers kept ≡ true
    → are_answers (with_answered a kept) ≡ true
answers_with a [] one all = and_from (is_answer a) true one refl
answers_with a (k ∷ kept) one all = on (nat_lt a.id k.id) (answers_with a kept one t.1)
  where
    t : (is_answer k ≡ true) × (are_answers kept ≡ true)
    t = and_parts (is_answer k) (are_answers kept) all

    on : (b : Bool) → are_answers (with_answered a kept) ≡ true → are_answers (cond b (a ∷ k ∷ kept) (k ∷ with_answered a kept)) ≡ true
    on true rest = and_from (is_answer a) (are_answers (k ∷ kept)) one all
    on false rest = and_from (is_answer k) (are_answers (with_answered a kept)) t.0 rest

answers_filtered : (test : Answered → Bool) (kept : List Answered) → are_answers kept ≡ true → are_answers (filter test kept) ≡ true
answers_filtered test [] all = refl
answers_filtered test (k ∷ kept) all = on (test k) (answers_filtered test kept t.1)
  where
    t : (is_answer k ≡ true) × (are_answers kept ≡ true)
    t = and_parts (is_answer k) (are_answers kept) all

    on : (b : Bool) → are_answers (filter test kept) ≡ true → are_answers (cond b (k ∷ filter test kept) (filter test kept)) ≡ true
    on true rest = and_from (is_answer k) (are_answers (filter test kept)) t.0 rest
    on false rest = rest

-- an account as it is saved, with a result whose id is new
pub account_is : (o : Option Account) (a : Answered) → IfSome o (λ old. is_account old ≡ true) → is_new_to WINDOW o a.id ≡ true
    → is_answer a ≡ true → is_account (account_with WINDOW o a) ≡ true
account_is None a h new one =
    and_from (is_kept (account_with WINDOW None a)) (are_answers (a ∷ [])) (first_is_kept a) (and_from (is_answer a) true one refl)
account_is (Some old) a h new one =
    let t = and_parts (is_kept old) (are_answers old.kept) h in
    and_from (is_kept (account_with WINDOW (Some old) a)) (are_answers (account_with WINDOW (Some old) a).kept)
    (more_is_kept old a t.0 new)
    (answers_filtered (λ k. nat_lt (max old.greatest a.id) (k.id + WINDOW)) (with_answered a old.kept) (answers_with a old.kept one t.1))

pub result_is_short : (kept : List Answered) (id : ℕ) → are_answers kept ≡ true
    → IfSome (result_in kept id) (λ bytes. length bytes ≤ MAX_RESULT_BYTES)
result_is_short [] id all = tt
result_is_short (a ∷ kept) id all = on (eqb a.id id) (result_is_short kept id t.1)
  where
    t : (is_answer a ≡ true) × (are_answers kept ≡ true)
    t = and_parts (is_answer a) (are_answers kept) all

    on : (b : Bool) → IfSome (result_in kept id) (λ bytes. length bytes ≤ MAX_RESULT_BYTES)
        → IfSome (cond b (Some a.result) (result_in kept id)) (λ bytes. length bytes ≤ MAX_RESULT_BYTES)
    on true rest = (answer_parts a t.0).1
    on false rest = rest

id_is_low : (kept : List Answered) → are_answers kept ≡ true → (k : ℕ) → is_in (kept_ids kept) k ≡ true → 1 ≤ k
id_is_low [] all k i = absurd cc
id_is_low (a ∷ kept) all k i =
    let t = and_parts (is_answer a) (are_answers kept) all in
    elim (or_cases (eqb a.id k) (is_in (kept_ids kept) k) i) [
      | inl same ↦ let e : a.id ≡ k = eqb-true a.id k same in let low = (answer_parts a t.0).0 in omega (arith, e, low)
      | inr later ↦ id_is_low kept t.1 k later
    ]

pub greatest_is_low : (a : Account) → is_account a ≡ true → 1 ≤ a.greatest
greatest_is_low a h =
    let t = and_parts (is_kept a) (are_answers a.kept) h in
    id_is_low a.kept t.1 a.greatest (last a.greatest (least_kept a.greatest) a.kept t.0 (omega arith))

-- its ids run from 1, where the window reaches below that
pub runs_from_one : (a : Account) → is_account a ≡ true → runs_to a.greatest (max 1 (least_kept a.greatest)) a.kept ≡ true
runs_from_one a h = on a.kept t.0 t.1
  where
    t : (is_kept a ≡ true) × (are_answers a.kept ≡ true)
    t = and_parts (is_kept a) (are_answers a.kept) h

    on : (kept : List Answered) → runs_to a.greatest (least_kept a.greatest) kept ≡ true → are_answers kept ≡ true
        → runs_to a.greatest (max 1 (least_kept a.greatest)) kept ≡ true
    on [] runs_there all = absurd (let same = eqb-true (least_kept a.greatest) (a.greatest + 1) runs_there in omega (arith, same))
    on (k ∷ kept) runs_there all =
        let s = and_parts (nat_le (least_kept a.greatest) k.id) (runs_to a.greatest (k.id + 1) kept) runs_there in
        let near = leb-true (least_kept a.greatest) k.id s.0 in
        let low = (answer_parts k (and_parts (is_answer k) (are_answers kept) all).0).0 in
        and_from (nat_le (max 1 (least_kept a.greatest)) k.id) (runs_to a.greatest (k.id + 1) kept)
        (le-leb (max 1 (least_kept a.greatest)) k.id (omega (arith, near, low))) s.1

pub kept_from_one : (g : ℕ) (kept : List Answered) → 1 ≤ g → runs_to g (max 1 (least_kept g)) kept ≡ true
    → is_kept (record { greatest = g; kept = kept }) ≡ true
kept_from_one g [] low runs_there =
    absurd (let same = eqb-true (max 1 (least_kept g)) (g + 1) runs_there in omega (arith, low, same))
kept_from_one g (k ∷ kept) low runs_there =
    let s = and_parts (nat_le (max 1 (least_kept g)) k.id) (runs_to g (k.id + 1) kept) runs_there in
    let near = leb-true (max 1 (least_kept g)) k.id s.0 in
    and_from (nat_le (least_kept g) k.id) (runs_to g (k.id + 1) kept) (le-leb (least_kept g) k.id (omega (arith, near))) s.1

-- ---- and taken out again

none_beyond : (w g least : ℕ) (kept : List Answered) → g < least + w → AscendFrom least kept → beyond w g kept ++ within w g kept ≡ kept
none_beyond w g least [] near up = refl
none_beyond w g least (a ∷ kept) near up =
    let low = up.0 in
    let here : nat_lt g (a.id + w) ≡ true = lt-ltb g (a.id + w) (omega (arith, near, low)) in
    rw here (moved (beyond w g kept) (within w g kept) (no_rest (a.id + 1) kept (omega (arith, near, low)) up.1) (none_beyond w g (a.id + 1) kept (omega (arith, near, low)) up.1))
  where
    no_rest : (l : ℕ) (ks : List Answered) → g < l + w → AscendFrom l ks → beyond w g ks ≡ []
    no_rest l [] n u = refl
    no_rest l (k ∷ ks) n u =
        let low = u.0 in
        let here : nat_lt g (k.id + w) ≡ true = lt-ltb g (k.id + w) (omega (arith, n, low)) in
        rw here (no_rest (k.id + 1) ks (omega (arith, n, low)) u.1)

    moved : (xs ys : List Answered) → xs ≡ [] → xs ++ ys ≡ kept → xs ++ (a ∷ ys) ≡ a ∷ kept
    moved xs ys none all =
        let rest : ys ≡ kept = ap (λ (l : List Answered). l ++ ys) (sym none) ∙ all in
        ap (λ (l : List Answered). l ++ (a ∷ ys)) none ∙ ap (λ (l : List Answered). a ∷ l) rest

pub both_parts : (w g least : ℕ) (kept : List Answered) → AscendFrom least kept → beyond w g kept ++ within w g kept ≡ kept
both_parts w g least [] up = refl
both_parts w g least (a ∷ kept) up = on (nat_lt g (a.id + w)) refl (both_parts w g (a.id + 1) kept up.1)
  where
    on : (t : Bool) → nat_lt g (a.id + w) ≡ t → beyond w g kept ++ within w g kept ≡ kept
        → beyond w g (a ∷ kept) ++ within w g (a ∷ kept) ≡ a ∷ kept
    on true e more = none_beyond w g a.id (a ∷ kept) (ltb-true g (a.id + w) e) (omega arith, up.1)
    on false e more = rw e (ap (λ (l : List Answered). a ∷ l) more)

without_none : (id : ℕ) (kept : List Answered) → is_in (kept_ids kept) id ≡ false → without id kept ≡ kept
without_none id [] h = refl
without_none id (a ∷ kept) h =
    let t = or_parts (eqb a.id id) (is_in (kept_ids kept) id) h in
    rw (t.0) (ap (λ (l : List Answered). a ∷ l) (without_none id kept t.1))

without_with : (a : Answered) (kept : List Answered) → is_in (kept_ids kept) a.id ≡ false → without a.id (with_answered a kept) ≡ kept
without_with a [] h = rw (eq-eqb a.id a.id refl) refl
without_with a (b ∷ kept) h = on (nat_lt a.id b.id) (without_with a kept t.1)
  where
    t : (eqb b.id a.id ≡ false) × (is_in (kept_ids kept) a.id ≡ false)
    t = or_parts (eqb b.id a.id) (is_in (kept_ids kept) a.id) h

    on : (s : Bool) → without a.id (with_answered a kept) ≡ kept → without a.id (cond s (a ∷ b ∷ kept) (b ∷ with_answered a kept)) ≡ b ∷ kept
    on true more = rw (eq-eqb a.id a.id refl) (without_none a.id (b ∷ kept) h)
    on false more = rw (t.0) (ap (λ (l : List Answered). b ∷ l) more)

filters_commute : (p q : Answered → Bool) (xs : List Answered) → filter p (filter q xs) ≡ filter q (filter p xs)
filters_commute p q [] = refl
filters_commute p q (x ∷ xs) = on (p x) (q x) refl refl (filters_commute p q xs)
  where
    on : (a b : Bool) → p x ≡ a → q x ≡ b → filter p (filter q xs) ≡ filter q (filter p xs)
        → filter p (cond b (x ∷ filter q xs) (filter q xs)) ≡ filter q (cond a (x ∷ filter p xs) (filter p xs))
    on true true e f rest = rw (e, f) (ap (λ (l : List Answered). x ∷ l) rest)
    on true false e f rest = rw f rest
    on false true e f rest = rw e rest
    on false false e f rest = rest

pub kept_back : (old : Account) (a : Answered) → is_kept old ≡ true → is_new_to WINDOW (Some old) a.id ≡ true
    → beyond WINDOW (max old.greatest a.id) old.kept ++ without a.id (account_with WINDOW (Some old) a).kept ≡ old.kept
kept_back old a h new =
    let g : ℕ = max old.greatest a.id in
    let parts = new_parts old a.id new in
    ap (λ (l : List Answered). beyond WINDOW g old.kept ++ l)
    (filters_commute (λ k. not (eqb k.id a.id)) (λ k. nat_lt g (k.id + WINDOW)) (with_answered a old.kept)
    ∙ ap (within WINDOW g) (without_with a old.kept parts.1))
    ∙ both_parts WINDOW g (least_kept old.greatest) old.kept (ascends old.greatest (least_kept old.greatest) old.kept h)

-- ---- as the code goes about it

pub within_with : (w g : ℕ) (a : Answered) (kept : List Answered) → nat_lt g (a.id + w) ≡ true
    → within w g (with_answered a kept) ≡ with_answered a (within w g kept)
within_with w g a [] near = rw near refl
within_with w g a (b ∷ kept) near = on (nat_lt a.id b.id) (nat_lt g (b.id + w)) refl refl (within_with w g a kept near)
  where
    on : (s t : Bool) → nat_lt a.id b.id ≡ s → nat_lt g (b.id + w) ≡ t
        → within w g (with_answered a kept) ≡ with_answered a (within w g kept)
        → within w g (cond s (a ∷ b ∷ kept) (b ∷ with_answered a kept)) ≡ with_answered a (cond t (b ∷ within w g kept) (within w g kept))
    on true true e f more = rw (near, f, e) refl
    on false true e f more = rw (f, e) (ap (λ (l : List Answered). b ∷ l) more)
    on true false e f more = absurd (let l = ltb-true a.id b.id e in let m = ltb-true g (a.id + w) near in let n = ltb-false g (b.id + w) f in omega (arith, l, m, n))
    on false false e f more = rw f more

abbrev pub is_far : ℕ → ℕ → Answered → Bool
is_far w g a = not (nat_lt g (a.id + w))

-- how many are left behind
abbrev far : ℕ → ℕ → List Answered → ℕ
far w g [] = 0
far w g (a ∷ kept) = cond (is_far w g a) (suc (far w g kept)) (far w g kept)

none_far : (w g least : ℕ) (kept : List Answered) → g < least + w → AscendFrom least kept
    → (beyond w g kept ≡ []) × (within w g kept ≡ kept) × (far w g kept ≡ 0)
none_far w g least [] near up = (refl, refl, refl)
none_far w g least (a ∷ kept) near up =
    let low = up.0 in
    let here : nat_lt g (a.id + w) ≡ true = lt-ltb g (a.id + w) (omega (arith, near, low)) in
    let rest = none_far w g (a.id + 1) kept (omega (arith, near, low)) up.1 in
    (rw here rest.0, rw here (ap (λ (l : List Answered). a ∷ l) rest.1), rw here rest.2)

-- those that are left behind come first
first_far : (w g least : ℕ) (kept : List Answered) → AscendFrom least kept
    → (beyond w g kept ≡ take (far w g kept) kept) × (within w g kept ≡ drop (far w g kept) kept)
first_far w g least [] up = (refl, refl)
first_far w g least (a ∷ kept) up = on (nat_lt g (a.id + w)) refl (first_far w g (a.id + 1) kept up.1)
  where
    on : (t : Bool) → nat_lt g (a.id + w) ≡ t
        → ((beyond w g kept ≡ take (far w g kept) kept) × (within w g kept ≡ drop (far w g kept) kept))
        → (beyond w g (a ∷ kept) ≡ take (far w g (a ∷ kept)) (a ∷ kept))
        × (within w g (a ∷ kept) ≡ drop (far w g (a ∷ kept)) (a ∷ kept))
    on true e rest =
        let all = none_far w g a.id (a ∷ kept) (ltb-true g (a.id + w) e) (omega arith, up.1) in
        rw all.2 (all.0, all.1)
    on false e rest =
        rw e (ap (λ (l : List Answered). a ∷ l) rest.0, rest.1)

one_more : (n : ℕ) → suc n ≡ 1 + n
one_more n = omega arith

pub far_first : (w g least : ℕ) (kept : List Answered) → AscendFrom least kept
    → (beyond w g kept ≡ take (count_by (is_far w g) kept) kept) × (within w g kept ≡ drop (count_by (is_far w g) kept) kept)
far_first w g least kept up =
    let count : far w g kept ≡ count_by (is_far w g) kept =
    is_count_by (far w g) (is_far w g) refl (λ k ks. ap (λ (n : ℕ). cond (is_far w g k) n (far w g ks)) (one_more (far w g ks))) kept in
    let r = first_far w g least kept up in (
      r.0 ∙ ap (λ (n : ℕ). take n kept) count,
      r.1 ∙ ap (λ (n : ℕ). drop n kept) count,
    )

-- where a result goes
pub goes_before : (a : Answered) (n : ℕ) (kept : List Answered) → (i : ℕ)
    × (unwrap_or (position_from (λ k. nat_lt a.id k.id) n kept) (n + length kept) ≡ n + i)
    × (i ≤ length kept) × (insert kept i a ≡ with_answered a kept)
goes_before a n [] = (0, omega arith, omega arith, refl)
goes_before a n (b ∷ kept) = on (nat_lt a.id b.id) refl (goes_before a (n + 1) kept)
  where
    on : (t : Bool) → nat_lt a.id b.id ≡ t
        → ((i : ℕ) × (unwrap_or (position_from (λ k. nat_lt a.id k.id) (n + 1) kept) (n + 1 + length kept) ≡ n + 1 + i)
        × (i ≤ length kept) × (insert kept i a ≡ with_answered a kept))
        → (i : ℕ) × (unwrap_or (position_from (λ k. nat_lt a.id k.id) n (b ∷ kept)) (n + length (b ∷ kept)) ≡ n + i)
        × (i ≤ length (b ∷ kept)) × (insert (b ∷ kept) i a ≡ with_answered a (b ∷ kept))
    on true e r = (0, rw e (omega arith), omega arith, rw e refl)
    on false e r =
        let more : n + length (b ∷ kept) ≡ n + 1 + length kept = omega arith in (
          suc r.0,
          rw (e, more) (r.1 ∙ omega arith),
          let l = r.2 in omega (arith, l),
          rw e (ap (λ (l : List Answered). b ∷ l) r.3),
        )
