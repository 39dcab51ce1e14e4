-- An account as the code goes about it.
use Rattle.std.proofs.Common.{◌≡◌, ℕ, zero, suc, ◌+◌, ◌<◌, ◌≤◌, Bool, true, false, cond, not, List, [], ◌∷◌, ◌++◌, length, max, Some, None}
use Rattle.std.proofs.Common.{refl, sym, ap, ◌∙◌, arith}
use Rattle.std.specs.Prelude.{◌==◌, ◌||◌, count_by, drop, find, insert, nat_le, nat_lt, take}
use Rattle.std.specs.List.{list_any, position, position_from, slice_index_or}
use Rattle.std.specs.Option.{option_map, unwrap_or}
use Rattle.std.proofs.lemmas.Bool.{and_from, and_parts, or_parts, eqb-true, eq-eqb, ltb-true, ltb-false, lt-ltb}
use Rattle.std.proofs.lemmas.List.Recursion.{is_count_by}
use Rattle.std.proofs.lemmas.Iterator.Adapters.{position_from-zero}
use Rattle.nop_types.specs.declared.checkpoint.Answered.{Answered}
use Rattle.nop_types.specs.declared.limits.TheConstants.{WINDOW}
use Rattle.nop_types.specs.Lists.{any_above, is_in}
use Rattle.nop_types.specs.Tables.{Account, kept_ids, result_in, is_new_to, with_answered, account_with, beyond, within}
use Rattle.nop_types.specs.Checkpoints.{is_kept, least_kept, runs_to}
use Rattle.lemmas.proofs.Kept.{AscendFrom, ascends, far_first, few, goes_before, more_is_kept, most, within_with}
use Rattle.client_table.specs.Accounts.{is_far}
use Rattle.client_table.specs.Laws.{new_has_none}
use Rattle.client_table.specs.Table.{Fresh, Same, verdict_by_result, verdict_on}

pub any_id : (kept : List Answered) (id : ℕ) → list_any (λ a. a.id == id) kept ≡ is_in (kept_ids kept) id
any_id [] id = refl
any_id (a ∷ kept) id = ap (λ (b : Bool). (a.id == id) || b) (any_id kept id)

pub found_result : (kept : List Answered) (id : ℕ) → option_map (λ a. a.result) (find (λ a. a.id == id) kept) ≡ result_in kept id
found_result [] id = refl
found_result (a ∷ kept) id = on (a.id == id) (found_result kept id)
  where
    on : (b : Bool) → option_map (λ a. a.result) (find (λ a. a.id == id) kept) ≡ result_in kept id
        → option_map (λ a. a.result) (cond b (Some a) (find (λ a. a.id == id) kept)) ≡ cond b (Some a.result) (result_in kept id)
    on true e = refl
    on false e = e

-- ids ascend, so none before the last has its id
last_found : (least n : ℕ) (kept : List Answered) (d : Answered) → AscendFrom least kept → n + 1 ≡ length kept → d ≡ slice_index_or kept n d
    → (least ≤ d.id) × (find (λ a. a.id == d.id) kept ≡ Some d)
last_found least n [] d up len e = absurd (omega (arith, len))
last_found least zero (a ∷ []) d up len e = (
  let same = ap (λ (k : Answered). k.id) e in let low = up.0 in omega (arith, same, low),
  ap (λ (b : Bool). cond b (Some a) None) (eq-eqb a.id d.id (ap (λ (k : Answered). k.id) (sym e))) ∙ ap Some (sym e),
)
last_found least (suc n) (a ∷ []) d up len e = absurd (omega (arith, len))
last_found least zero (a ∷ b ∷ kept) d up len e = absurd (omega (arith, len))
last_found least (suc n) (a ∷ b ∷ kept) d up len e =
    let r = last_found (a.id + 1) n (b ∷ kept) d up.1 (omega (arith, len)) e in
    let above = r.0 in
    let low = up.0 in
    (omega (arith, above, low), on (a.id == d.id) refl above r.1)
  where
    on : (t : Bool) → (a.id == d.id) ≡ t → a.id + 1 ≤ d.id → find (λ k. k.id == d.id) (b ∷ kept) ≡ Some d
        → cond t (Some a) (find (λ k. k.id == d.id) (b ∷ kept)) ≡ Some d
    on true f above found = absurd (let same = eqb-true a.id d.id f in omega (arith, same, above))
    on false f above found = found

pub last_is_found : (a : Account) (n id : ℕ) (d : Answered) → is_kept a ≡ true → n + 1 ≡ length a.kept → d ≡ slice_index_or a.kept n d
    → d.id ≡ id → Some d.result ≡ result_in a.kept id
last_is_found a n id d h len e same =
    let found = (last_found (least_kept a.greatest) n a.kept d (ascends a.greatest (least_kept a.greatest) a.kept h) len e).1 in
    ap (option_map (λ k. k.result)) (sym found) ∙ found_result a.kept d.id ∙ ap (result_in a.kept) same

-- how many are left behind: those before the first that is not
abbrev far : ℕ → List Answered → ℕ
far g [] = 0
far g (a ∷ kept) = cond (is_far g a) (suc (far g kept)) (far g kept)

far_is_count : (g : ℕ) (kept : List Answered) → far g kept ≡ count_by (is_far g) kept
far_is_count g kept =
    is_count_by (far g) (is_far g) refl (λ k ks. ap (λ (n : ℕ). cond (is_far g k) n (far g ks)) (one_more (far g ks))) kept
  where
    one_more : (n : ℕ) → suc n ≡ 1 + n
    one_more n = omega arith

none_is_far : (g least : ℕ) (kept : List Answered) → g < least + WINDOW → AscendFrom least kept → far g kept ≡ 0
none_is_far g least [] near up = refl
none_is_far g least (a ∷ kept) near up =
    let low = up.0 in
    let here : nat_lt g (a.id + WINDOW) ≡ true = lt-ltb g (a.id + WINDOW) (omega (arith, near, low)) in
    rw here (none_is_far g (a.id + 1) kept (omega (arith, near, low)) up.1)

before_near : (g n least : ℕ) (kept : List Answered) → AscendFrom least kept
    → unwrap_or (position_from (λ k. nat_lt g (k.id + WINDOW)) n kept) (n + length kept) ≡ n + far g kept
before_near g n least [] up = omega arith
before_near g n least (a ∷ kept) up = on (nat_lt g (a.id + WINDOW)) refl (before_near g (n + 1) (a.id + 1) kept up.1)
  where
    on : (b : Bool) → nat_lt g (a.id + WINDOW) ≡ b
        → unwrap_or (position_from (λ k. nat_lt g (k.id + WINDOW)) (n + 1) kept) (n + 1 + length kept) ≡ n + 1 + far g kept
        → unwrap_or (position_from (λ k. nat_lt g (k.id + WINDOW)) n (a ∷ kept)) (n + length (a ∷ kept)) ≡ n + far g (a ∷ kept)
    on true e more =
        let near = ltb-true g (a.id + WINDOW) e in
        let none : far g kept ≡ 0 = none_is_far g (a.id + 1) kept (omega (arith, near)) up.1 in
        rw e (omega (arith, none))
    on false e more =
        let next : n + length (a ∷ kept) ≡ n + 1 + length kept = omega arith in
        rw (e, next) (more ∙ omega arith)

pub far_are_first : (a : Account) (g : ℕ) → is_kept a ≡ true
    → unwrap_or (position (λ k. nat_lt g (k.id + WINDOW)) a.kept) (length a.kept) ≡ count_by (is_far g) a.kept
far_are_first a g h =
    let all : length a.kept ≡ 0 + length a.kept = omega arith in
    let found : position (λ k. nat_lt g (k.id + WINDOW)) a.kept ≡ position_from (λ k. nat_lt g (k.id + WINDOW)) 0 a.kept =
    position_from-zero (λ k. nat_lt g (k.id + WINDOW)) a.kept in
    let none_before : 0 + far g a.kept ≡ far g a.kept = omega arith in
    ap (λ o. unwrap_or o (length a.kept)) found
    ∙ ap (unwrap_or (position_from (λ k. nat_lt g (k.id + WINDOW)) 0 a.kept)) all
    ∙ before_near g 0 (least_kept a.greatest) a.kept (ascends a.greatest (least_kept a.greatest) a.kept h)
    ∙ none_before ∙ far_is_count g a.kept

-- none is above the greatest id, so a greater one is new, and its result goes to the end
pub above_is_new : (a : Account) (id : ℕ) → is_kept a ≡ true → a.greatest < id → is_new_to WINDOW (Some a) id ≡ true
above_is_new a id h above =
    and_from (nat_lt a.greatest (id + WINDOW)) (not (is_in (kept_ids a.kept) id))
    (lt-ltb a.greatest (id + WINDOW) (omega (arith, above))) (ap not (by (is_in (kept_ids a.kept) id) refl))
  where
    by : (b : Bool) → is_in (kept_ids a.kept) id ≡ b → is_in (kept_ids a.kept) id ≡ false
    by true e = absurd (let top = most a.greatest (least_kept a.greatest) a.kept h id e in omega (arith, top, above))
    by false e = e

not_below : (m n : ℕ) → m ≤ n → nat_lt n m ≡ false
not_below m n low = by (nat_lt n m) refl
  where
    by : (b : Bool) → nat_lt n m ≡ b → nat_lt n m ≡ false
    by true e = absurd (let less = ltb-true n m e in omega (arith, low, less))
    by false e = e

none_above : (g least : ℕ) (kept : List Answered) → runs_to g least kept ≡ true → any_above (kept_ids kept) g ≡ false
none_above g least [] h = refl
none_above g least (a ∷ kept) h =
    let t = and_parts (nat_le least a.id) (runs_to g (a.id + 1) kept) h in
    let low = few g (a.id + 1) kept t.1 in
    let here : nat_lt g a.id ≡ false = not_below a.id g (omega (arith, low)) in
    rw here (none_above g (a.id + 1) kept t.1)

none_above_later : (g n : ℕ) (kept : List Answered) → any_above (kept_ids kept) g ≡ false → any_above (kept_ids (drop n kept)) g ≡ false
none_above_later g zero kept h = h
none_above_later g (suc n) [] h = refl
none_above_later g (suc n) (a ∷ kept) h =
    none_above_later g n kept (or_parts (nat_lt g a.id) (any_above (kept_ids kept) g) h).1

pub none_left_above : (a : Account) (n : ℕ) → is_kept a ≡ true → any_above (kept_ids (drop n a.kept)) a.greatest ≡ false
none_left_above a n h = none_above_later a.greatest n a.kept (none_above a.greatest (least_kept a.greatest) a.kept h)

pub goes_last : (a : Answered) (g : ℕ) (kept : List Answered) → any_above (kept_ids kept) g ≡ false → g < a.id
    → kept ++ a ∷ [] ≡ with_answered a kept
goes_last a g [] none above = refl
goes_last a g (k ∷ ks) none above =
    let t = or_parts (nat_lt g k.id) (any_above (kept_ids ks) g) none in
    let low = ltb-false g k.id t.0 in
    let here : nat_lt a.id k.id ≡ false = not_below k.id a.id (omega (arith, low, above)) in
    rw here (ap (λ (l : List Answered). k ∷ l) (goes_last a g ks t.1 above))

-- where a result goes
pub goes_at : (a : Answered) (kept : List Answered) → (i : ℕ)
    × (unwrap_or (position (λ k. nat_lt a.id k.id) kept) (length kept) ≡ i) × (insert kept i a ≡ with_answered a kept)
goes_at a kept =
    let r = goes_before a 0 kept in
    let all : length kept ≡ 0 + length kept = omega arith in
    let found : position (λ k. nat_lt a.id k.id) kept ≡ position_from (λ k. nat_lt a.id k.id) 0 kept =
    position_from-zero (λ k. nat_lt a.id k.id) kept in
    let place : 0 + r.0 ≡ r.0 = omega arith in
    (r.0, ap (λ o. unwrap_or o (length kept)) found ∙ ap (unwrap_or (position_from (λ k. nat_lt a.id k.id) 0 kept)) all ∙ r.1 ∙ place, r.3)

-- what an id is, by the result that is kept with it
pub same_verdict : (a : Account) (id : ℕ) (result : List ℕ) → is_kept a ≡ true → result_in a.kept id ≡ Some result
    → Same result ≡ verdict_on (Some a) id
same_verdict a id result h e = sym (by_new (is_new_to WINDOW (Some a) id) refl)
  where
    by_new : (b : Bool) → is_new_to WINDOW (Some a) id ≡ b → cond b Fresh (verdict_by_result (result_in a.kept id)) ≡ Same result
    by_new true new = absurd (let none = new_has_none (Some a) id new in let f = sym none ∙ e in cc)
    by_new false old = ap verdict_by_result e

pub above_is_fresh : (a : Account) (id : ℕ) → is_kept a ≡ true → a.greatest < id → Fresh ≡ verdict_on (Some a) id
above_is_fresh a id h above =
    sym (ap (λ (b : Bool). cond b Fresh (verdict_by_result (result_in a.kept id))) (above_is_new a id h above))

pub fresh_verdict : (a : Account) (id : ℕ) → result_in a.kept id ≡ None → nat_lt a.greatest (id + WINDOW) ≡ true
    → Fresh ≡ verdict_on (Some a) id
fresh_verdict a id none near =
    sym (ap (λ (b : Bool). cond b Fresh (verdict_by_result (result_in a.kept id)))
    (and_from (nat_lt a.greatest (id + WINDOW)) (not (is_in (kept_ids a.kept) id)) near (ap not (no_id a.kept id none))))
  where
    no_id : (kept : List Answered) (id : ℕ) → result_in kept id ≡ None → is_in (kept_ids kept) id ≡ false
    no_id [] id e = refl
    no_id (k ∷ kept) id e = on (k.id == id) e (no_id kept id)
      where
        on : (b : Bool) → cond b (Some k.result) (result_in kept id) ≡ None → (result_in kept id ≡ None → is_in (kept_ids kept) id ≡ false)
            → (b || is_in (kept_ids kept) id) ≡ false
        on true f rest = absurd cc
        on false f rest = rest f

-- ---- results are moved out

pub parts_of : (front rest xs : List Answered) (n : ℕ) → front ++ rest ≡ xs → length front ≡ n → (front ≡ take n xs) × (rest ≡ drop n xs)
parts_of front rest xs n whole count =
    let t = on front in (
      sym t.0 ∙ ap (λ (l : List Answered). take (length front) l) whole ∙ ap (λ (k : ℕ). take k xs) count,
      sym t.1 ∙ ap (λ (l : List Answered). drop (length front) l) whole ∙ ap (λ (k : ℕ). drop k xs) count,
    )
  where
    on : (l : List Answered) → (take (length l) (l ++ rest) ≡ l) × (drop (length l) (l ++ rest) ≡ rest)
    on [] = (refl, refl)
    on (a ∷ l) = let t = on l in (ap (λ (k : List Answered). a ∷ k) t.0, t.1)

-- ---- one result more

length_with : (a : Answered) (kept : List Answered) → length (with_answered a kept) ≡ length kept + 1
length_with a [] = refl
length_with a (k ∷ kept) = on (nat_lt a.id k.id) (length_with a kept)
  where
    on : (b : Bool) → length (with_answered a kept) ≡ length kept + 1
        → length (cond b (a ∷ k ∷ kept) (k ∷ with_answered a kept)) ≡ length (k ∷ kept) + 1
    on true e = omega arith
    on false e = omega (arith, e)

pub keeps : (old : Account) (x : Answered) → is_kept old ≡ true → is_new_to WINDOW (Some old) x.id ≡ true → (g n : ℕ)
    → g ≡ max old.greatest x.id → n ≡ count_by (is_far g) old.kept
    → (with_answered x (drop n old.kept) ≡ (account_with WINDOW (Some old) x).kept)
    × (take n old.kept ≡ beyond WINDOW (max old.greatest x.id) old.kept) × (length (drop n old.kept) < WINDOW)
keeps old x h new g n is count = (
  ap (with_answered x) rest ∙ sym (within_with WINDOW top x old.kept near),
  ap (λ (k : ℕ). take k old.kept) number ∙ sym far.0,
  let all = few top (least_kept top) (account_with WINDOW (Some old) x).kept (more_is_kept old x h new) in
      let one = length_with x (within WINDOW top old.kept) in
      let same : length (account_with WINDOW (Some old) x).kept ≡ length (with_answered x (within WINDOW top old.kept)) =
      ap length (within_with WINDOW top x old.kept near) in
      let left : length (drop n old.kept) ≡ length (within WINDOW top old.kept) = ap length rest in
      omega (arith, all, one, same, left),
)
  where
    top : ℕ
    top = max old.greatest x.id

    number : n ≡ count_by (is_far top) old.kept
    number = count ∙ ap (λ (k : ℕ). count_by (is_far k) old.kept) is

    far : (beyond WINDOW top old.kept ≡ take (count_by (is_far top) old.kept) old.kept)
        × (within WINDOW top old.kept ≡ drop (count_by (is_far top) old.kept) old.kept)
    far = far_first WINDOW top (least_kept old.greatest) old.kept (ascends old.greatest (least_kept old.greatest) old.kept h)

    rest : drop n old.kept ≡ within WINDOW top old.kept
    rest = ap (λ (k : ℕ). drop k old.kept) number ∙ sym far.1

    near : nat_lt top (x.id + WINDOW) ≡ true
    near =
        let low = ltb-true old.greatest (x.id + WINDOW) (and_parts (nat_lt old.greatest (x.id + WINDOW)) _ new).0 in
        lt-ltb top (x.id + WINDOW) (omega (arith, low))

-- ---- one result less

pub kept_fit : (a : Account) → is_kept a ≡ true → length a.kept ≤ WINDOW
kept_fit a h = let all = few a.greatest (least_kept a.greatest) a.kept h in omega (arith, all)
