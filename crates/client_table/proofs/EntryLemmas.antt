-- The clients with their accounts: what is found in the list, and what a change at one place of it does.
use Rattle.std.proofs.Common.{◌≡◌, ℕ, zero, suc, ◌+◌, ◌-◌, ◌<◌, ◌≤◌, ◌≢◌, eqb, Bool, true, false, cond, [], ◌∷◌, length}
use Rattle.std.proofs.Common.{get_or, set, Option, Some, None, Result, Ok, Err, IfOk, IfErr, IsOk, refl, sym, ap, subst, ◌∙◌, arith}
use Rattle.std.specs.Prelude.{nat_le, IsTrue}
use Rattle.std.specs.List.{insert, remove}
use Rattle.std.specs.List.Sorted.{IsSearchInRange, IsBinarySearchResult, IsNonDecreasingBy, IsStrictlySortedBy}
use Rattle.std.specs.Map.{keys_of}
use Rattle.std.specs.Ordering.{nat_cmp, ordering_index}
use Rattle.std.specs.FinMap as finite
use Rattle.std.proofs.lemmas.Bool.{and_parts, leb-true, eqb-true}
use Rattle.std.proofs.lemmas.Bool.Decides.{nat_tests}
use Rattle.std.proofs.lemmas.Cmp.{ranked, nat_cmp_total}
use Rattle.std.proofs.lemmas.Grind.{common_steps}
use Rattle.std.proofs.lemmas.List.{get_or-map, get_or_default, length-map}
use Rattle.std.proofs.lemmas.List.Edits.{length-insert, get_or-insert_below, get_or-insert_at, get_or-insert_above}
use Rattle.std.proofs.lemmas.List.Edits.{length-remove, get_or-remove_below, get_or-remove_above}
use Rattle.std.proofs.lemmas.List.Sorted.{IsNonDecreasingBy-from_default}
use Rattle.std.proofs.lemmas.Map.Keys.{sorted_from_strictly_increasing}
use Rattle.nop_types.specs.Tables.{Account, kept_for}
use Rattle.nop_types.specs.Checkpoints.{are_saved, is_account}
use Rattle.execution_laws.proofs.Accounts.{kept_for-insert}
use Rattle.client_table.specs.Answers.{Entries, table_of, client_at, Ascend, IsAt, IsGapFor}
use Rattle.client_table.specs.Table.{MayReturn, Removed}
use Rattle.client_table.specs.Laws.{tie, kept_of_remove, same_table}

abbrev none_there : ℕ × Account
none_there = (0, record { greatest = 0; kept = [] })

-- ---- what is found

abbrev get : Entries → ℕ → Option Account
get [] q = None
get (e ∷ es) q = cond (eqb e.0 q) (Some e.1) (get es q)

found : (es : Entries) (q : ℕ) → finite.find nat_cmp q es ≡ get es q
found [] q = refl
found (e ∷ es) q =
    ap (λ (b : Bool). cond b (Some e.1) (finite.find nat_cmp q es)) (tie e.0 q) ∙ ap (cond (eqb e.0 q) (Some e.1)) (found es q)

kept_is : (es : Entries) (q : ℕ) → kept_for (table_of es) q ≡ get es q
kept_is es q = finite.get-from_entries nat_cmp_total es q ∙ found es q

-- none before place i is the client
abbrev NoneBefore : Entries → ℕ → ℕ → Type 0
NoneBefore es k i = (j : ℕ) → j < i → client_at es j ≢ k

none_in_rest : (x : ℕ × Account) (es : Entries) (k i : ℕ) → NoneBefore (x ∷ es) k (suc i) → NoneBefore es k i
none_in_rest x es k i without j lt = without (suc j) (omega (arith, lt))

at_in_rest : (x : ℕ × Account) (es : Entries) (k i : ℕ) → IsAt (x ∷ es) k (suc i) → IsAt es k i
at_in_rest x es k i at = record { in_range = omega (arith, at.in_range); is_client = at.is_client }

get_absent : (es : Entries) (k : ℕ) → NoneBefore es k (length es) → get es k ≡ None
get_absent [] k without = refl
get_absent (x ∷ es) k without = grind (arith, nat_tests, without 0 (omega arith), get_absent es k (none_in_rest x es k _ without))

get_present : (es : Entries) (k i : ℕ) → IsAt es k i → NoneBefore es k i → get es k ≡ Some (get_or es i none_there).1
get_present [] k i at without = absurd (omega (arith, at.in_range))
get_present (x ∷ es) k zero at without = grind (arith, nat_tests, at.is_client)
get_present (x ∷ es) k (suc i) at without =
    grind (arith, nat_tests, without 0 (omega arith), get_present es k i (at_in_rest x es k i at) (none_in_rest x es k i without))

-- ---- a change at one place

get_set : (es : Entries) (k i : ℕ) (e : ℕ × Account) → e.0 ≡ k → IsAt es k i → NoneBefore es k i → (q : ℕ)
    → get (set es i e) q ≡ cond (eqb k q) (Some e.1) (get es q)
get_set [] k i e is at without q = absurd (omega (arith, at.in_range))
get_set (x ∷ es) k zero e is at without q = grind (arith, nat_tests, at.is_client, is)
get_set (x ∷ es) k (suc i) e is at without q =
    grind (arith, nat_tests, without 0 (omega arith), get_set es k i e is (at_in_rest x es k i at) (none_in_rest x es k i without) q)

get_insert : (es : Entries) (k i : ℕ) (a : Account) → NoneBefore es k i → (q : ℕ)
    → get (insert es i (k, a)) q ≡ cond (eqb k q) (Some a) (get es q)
get_insert es k zero a without q = refl
get_insert [] k (suc i) a without q = refl
get_insert (x ∷ es) k (suc i) a without q =
    grind (arith, nat_tests, without 0 (omega arith), get_insert es k i a (none_in_rest x es k i without) q)

ascend_rest : (x : ℕ × Account) (es : Entries) → Ascend (x ∷ es) → Ascend es
ascend_rest x es up i j lt within = up (suc i) (suc j) (omega (arith, lt)) (omega (arith, within))

get_remove : (es : Entries) (k i : ℕ) → Ascend es → IsAt es k i → NoneBefore es k i → (q : ℕ)
    → get (remove es i) q ≡ cond (eqb k q) None (get es q)
get_remove [] k i up at without q = absurd (omega (arith, at.in_range))
get_remove (x ∷ es) k zero up at without q =
    let later : NoneBefore es k (length es) =
    λ j lt same. (let above = up 0 (suc j) (omega arith) (omega (arith, lt)) in let here = at.is_client in omega (arith, above, here, same)) in
    let none = get_absent es k later in
    on (eqb k q) refl none
  where
    on : (b : Bool) → eqb k q ≡ b → get es k ≡ None → get es q ≡ cond b None (cond (eqb x.0 q) (Some x.1) (get es q))
    on true same none = ap (get es) (sym (eqb-true k q same)) ∙ none
    on false apart none =
        ap (λ (b : Bool). cond b (Some x.1) (get es q)) (sym (ap (λ (n : ℕ). eqb n q) at.is_client ∙ apart))
get_remove (x ∷ es) k (suc i) up at without q =
    grind (arith, nat_tests, without 0 (omega arith), get_remove es k i (ascend_rest x es up) (at_in_rest x es k i at) (none_in_rest x es k i without) q)

-- ---- a search

module _ (es : Entries) (up : Ascend es) (k : ℕ) where
  rise : IsNonDecreasingBy (λ e. ordering_index (nat_cmp e.0 k)) es
  rise = IsNonDecreasingBy-from_default (λ e. ordering_index (nat_cmp e.0 k)) es none_there (λ i j le within.
      let low : client_at es i ≤ client_at es j = grind (arith, up i j, λ (same : i ≡ j). ap (client_at es) same) in
      grind (arith, nat_tests))

  pub searched : (r : Result ℕ ℕ) → IsSearchInRange r (length es) → IsBinarySearchResult (λ e. nat_cmp e.0 k) es r
      → (IfOk r (IsAt es k)) × (IfErr r (IsGapFor es k))
  searched (Ok at) within equal = (record { in_range = within; is_client = ranked _ k _ (sym (equal none_there)) }, tt)
  searched (Err at) within parted = (
    tt,
    record {
      in_range = within;
      smaller_before = λ j lt. ranked _ k _ (sym ((parted rise).0 j none_there (omega (arith, lt)) lt));
      greater_after = λ j le lt. ranked _ k _ (sym ((parted rise).1 j none_there le lt));
    },
  )

-- ---- at the place of a client

module _ (es : Entries) (up : Ascend es) (k i : ℕ) (at : IsAt es k i) where
  none_before : NoneBefore es k i
  none_before j lt same = let above = up j i lt at.in_range in let here = at.is_client in omega (arith, above, here, same)

  pub kept_at : kept_for (table_of es) k ≡ Some (get_or es i none_there).1
  kept_at = kept_is es k ∙ get_present es k i at none_before

  pub table_set : (e : ℕ × Account) → e.0 ≡ k → table_of (set es i e) ≡ finite.insert (table_of es) k e.1
  table_set e is =
      same_table _ _ (λ q. kept_is (set es i e) q ∙ get_set es k i e is at none_before q
      ∙ ap (cond (eqb k q) (Some e.1)) (sym (kept_is es q)) ∙ sym (kept_for-insert (table_of es) k e.1 q))

  pub ascend_set : (e : ℕ × Account) → e.0 ≡ k → Ascend (set es i e)
  ascend_set e is j l lt within = grind (arith, common_steps, up j l, up j i, up i l, at.in_range, at.is_client, is)

  pub table_remove : table_of (remove es i) ≡ finite.remove (table_of es) k
  table_remove =
      same_table _ _ (λ q. kept_is (remove es i) q ∙ get_remove es k i up at none_before q
      ∙ ap (cond (eqb k q) None) (sym (kept_is es q)) ∙ sym (kept_of_remove (table_of es) k q))

  pub ascend_remove : Ascend (remove es i)
  ascend_remove j l lt within =
      let less = length-remove es i at.in_range in
      let below : (m : ℕ) → m < i → client_at (remove es i) m ≡ client_at es m =
      λ m low. ap (λ (e : ℕ × Account). e.0) (get_or-remove_below es i none_there m low at.in_range) in
      let above : (m : ℕ) → i ≤ m → client_at (remove es i) m ≡ client_at es (m + 1) =
      λ m high. ap (λ (e : ℕ × Account). e.0) (get_or-remove_above es i none_there m high at.in_range) in
      grind (arith, below j, below l, above j, above l, up j l, up j (l + 1), up (j + 1) (l + 1), less)

-- ---- at the gap for a client

module _ (es : Entries) (k i : ℕ) (gap : IsGapFor es k i) where
  none_at : NoneBefore es k (length es)
  none_at j lt same = grind (arith, gap.smaller_before j, gap.greater_after j)

  pub none_kept : kept_for (table_of es) k ≡ None
  none_kept = kept_is es k ∙ get_absent es k none_at

  pub table_insert : (a : Account) → table_of (insert es i (k, a)) ≡ finite.insert (table_of es) k a
  table_insert a =
      same_table _ _ (λ q. kept_is (insert es i (k, a)) q
      ∙ get_insert es k i a (λ j lt same. let low = gap.smaller_before j lt in omega (arith, low, same)) q
      ∙ ap (cond (eqb k q) (Some a)) (sym (kept_is es q)) ∙ sym (kept_for-insert (table_of es) k a q))

  pub ascend_insert : (a : Account) → Ascend es → Ascend (insert es i (k, a))
  ascend_insert a up j l lt within =
      let more = length-insert es i (k, a) gap.in_range in
      let below : (m : ℕ) → m < i → client_at (insert es i (k, a)) m ≡ client_at es m =
      λ m low. ap (λ (e : ℕ × Account). e.0) (get_or-insert_below es i (k, a) none_there m low gap.in_range) in
      let here : (m : ℕ) → m ≡ i → client_at (insert es i (k, a)) m ≡ k =
      λ m same. rw same (ap (λ (e : ℕ × Account). e.0) (get_or-insert_at es i (k, a) none_there gap.in_range)) in
      let above : (m : ℕ) → i < m → client_at (insert es i (k, a)) m ≡ client_at es (m - 1) =
      λ m high. subst (λ n. client_at (insert es i (k, a)) n ≡ client_at es (m - 1)) {x = m - 1 + 1} (omega (arith, high))
      (ap (λ (e : ℕ × Account). e.0) (get_or-insert_above es i (k, a) none_there (m - 1) (omega (arith, high)) gap.in_range)) in
      grind (
        arith,
        below j,
        here j,
        above j,
        below l,
        here l,
        above l,
        up j l,
        up j (l - 1),
        up (j - 1) (l - 1),
        gap.smaller_before j,
        gap.greater_after (l - 1),
        more,
      )

  -- nothing is taken out
  pub table_unchanged : table_of es ≡ finite.remove (table_of es) k
  table_unchanged = same_table _ _ (λ q. on q (eqb k q) refl ∙ sym (kept_of_remove (table_of es) k q))
    where
      on : (q : ℕ) (b : Bool) → eqb k q ≡ b → kept_for (table_of es) q ≡ cond b None (kept_for (table_of es) q)
      on q true same = ap (kept_for (table_of es)) (sym (eqb-true k q same)) ∙ none_kept
      on q false apart = refl

-- where a client has an account, a search finds it
pub is_there : (es : Entries) (k id : ℕ) (x : Removed) (r : Result ℕ ℕ) → IfErr r (IsGapFor es k)
    → MayReturn (kept_for (table_of es) k) id (Some x) → IsOk r
is_there es k id x (Ok i) gap may = refl
is_there es k id x (Err i) gap may = absurd (subst (λ (o : Option Account). MayReturn o id (Some x)) (none_kept es k i gap) may)

-- the entry that was read at the place of a client
module _ (es now : Entries) (same : es ≡ now) (up : Ascend es) (k i : ℕ) (at : IsAt now k i) (d : ℕ × Account) (is : d ≡ get_or es i d) where
  there : IsAt es k i
  there = subst (λ (l : Entries). IsAt l k i) (sym same) at

  read : d ≡ get_or es i none_there
  read = is ∙ get_or_default es i d none_there there.in_range

  pub account_at : kept_for (table_of now) k ≡ Some d.1
  account_at =
      ap (λ (l : Entries). kept_for (table_of l) k) (sym same) ∙ kept_at es up k i there
      ∙ ap (λ (e : ℕ × Account). Some e.1) (sym read)

  -- an account is written over it
  pub table_written : (a : Account) → table_of (set es i (d.0, a)) ≡ finite.insert (table_of now) k a
  table_written a =
      table_set es up k i there (d.0, a) (ap (λ (e : ℕ × Account). e.0) read ∙ there.is_client)
      ∙ ap (λ (l : Entries). finite.insert (table_of l) k a) same

-- ---- the whole list

pub keys_ascend : (es : Entries) → Ascend es → IsStrictlySortedBy nat_cmp (keys_of es)
keys_ascend es up =
    sorted_from_strictly_increasing (keys_of es) (λ i within.
    let long = length-map es (λ e. e.0) in
    let one = get_or-map (λ e. e.0) es i none_there 0 (omega (arith, within, long)) in
    let two = get_or-map (λ e. e.0) es (i + 1) none_there 0 (omega (arith, within, long)) in
    let less = up i (i + 1) (omega arith) (omega (arith, within, long)) in
    omega (arith, one, two, less))

saved_from : (least : ℕ) (es : Entries) → IsTrue (are_saved least es)
    → ((i : ℕ) → i < length es → least ≤ client_at es i) × Ascend es
saved_from least [] h = ((λ i lt. absurd (omega (arith, lt))), (λ i j lt within. absurd (omega (arith, within))))
saved_from least (e ∷ es) h =
    let here = and_parts (nat_le least e.0) _ h in
    let low : least ≤ e.0 = leb-true least e.0 here.0 in
    let rest = saved_from (e.0 + 1) es (and_parts (is_account e.1) _ here.1).1 in
    (from low rest.0, up rest.0 rest.1)
  where
    from : least ≤ e.0 → ((i : ℕ) → i < length es → e.0 + 1 ≤ client_at es i) → (i : ℕ) → i < length (e ∷ es)
        → least ≤ client_at (e ∷ es) i
    from low high zero lt = low
    from low high (suc i) lt = let more = high i (omega (arith, lt)) in omega (arith, more, low)

    up : ((i : ℕ) → i < length es → e.0 + 1 ≤ client_at es i) → Ascend es → Ascend (e ∷ es)
    up high rest zero zero lt within = absurd (omega (arith, lt))
    up high rest zero (suc j) lt within = let more = high j (omega (arith, within)) in omega (arith, more)
    up high rest (suc i) zero lt within = absurd (omega (arith, lt))
    up high rest (suc i) (suc j) lt within = rest i j (omega (arith, lt)) (omega (arith, within))

pub saved_ascend : (es : Entries) → IsTrue (are_saved 0 es) → Ascend es
saved_ascend es h = (saved_from 0 es h).1
