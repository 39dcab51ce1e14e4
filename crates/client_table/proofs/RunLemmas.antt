-- What a table keeps after results that were kept one after the other.
use Rattle.std.proofs.Common.{◌≡◌, ℕ, ◌+◌, Bool, true, false, cond, eqb, List, [], ◌∷◌, ◌++◌, length, Option, Some, None, is_some}
use Rattle.std.proofs.Common.{refl, sym, ap, subst, ◌∙◌, append_assoc, inl, inr, arith}
use Rattle.std.specs.Prelude.{nat_lt, not}
use Rattle.std.specs.Ordering.{nat_cmp}
use Rattle.std.specs.FinMap as finite
use Rattle.std.proofs.lemmas.Bool.{eqb-true, eq-eqb, ltb-false, lt-ltb, le-leb, and_from, and_cases, not-false}
use Rattle.std.proofs.lemmas.List.{append-nil}
use Rattle.nop_types.specs.declared.limits.TheConstants.{WINDOW}
use Rattle.nop_types.specs.Lists.{Has, is_in}
use Rattle.nop_types.specs.Windows.{greatest}
use Rattle.nop_types.specs.Tables.{Account, Table, kept_for, kept_ids, result_in, is_new_to, account_with, with_result}
use Rattle.lemmas.proofs.Places.{slice_get-append_left, slice_get-append_at}
use Rattle.execution_laws.proofs.Windows.{greatest_is}
use Rattle.execution_laws.proofs.Accounts.{Holds, IsThis, account_tells_new, first_holds, more_holds, has_result, kept_is_new_or_old}
use Rattle.client_table.specs.Table.{Fresh, is_fresh, verdict_by_result, verdict_on}
use Rattle.client_table.specs.Runs.{Given, kept_after, EachIsFresh, id_for, ids_for, IsVerdict}
use Rattle.client_table.specs.Laws.{kept_of_with_result, new_by_verdict}

ids_for-append : (c : ℕ) (xs ys : List Given) → ids_for c (xs ++ ys) ≡ ids_for c xs ++ ids_for c ys
ids_for-append c [] ys = refl
ids_for-append c (x ∷ xs) ys =
    ap (λ t. id_for c x ++ t) (ids_for-append c xs ys) ∙ sym (append_assoc (id_for c x) (ids_for c xs) (ids_for c ys))

-- an account has the ids that were given for its client, and each result that it keeps was given
record AccountOf (givens : List Given) (client : ℕ) (a : Account) : Type 0 where
  holds : Holds WINDOW (ids_for client givens) a
  given : (id : ℕ) (result : List ℕ) → result_in a.kept id ≡ Some result → Has givens (client, record { id = id; result = result })

-- nothing is kept for a client without an answer
abbrev IsKeptOf : List Given → ℕ → Option Account → Type 0
IsKeptOf givens client None = ids_for client givens ≡ []
IsKeptOf givens client (Some a) = AccountOf givens client a

-- ---- one more

module _ (before : List Given) (table : Table) (one : Given) (so_far : (c : ℕ)
    → IsKeptOf before c (kept_for table c)) (fresh : verdict_on (kept_for table one.0) one.1.id ≡ Fresh) where
  ids_push : (c : ℕ) → ids_for c (before ++ one ∷ []) ≡ ids_for c before ++ id_for c one
  ids_push c = ids_for-append c before (one ∷ []) ∙ ap (λ t. ids_for c before ++ t) (append-nil (id_for c one))

  ids_here : ids_for one.0 (before ++ one ∷ []) ≡ ids_for one.0 before ++ one.1.id ∷ []
  ids_here = ids_push one.0 ∙ ap (λ (b : Bool). ids_for one.0 before ++ cond b (one.1.id ∷ []) []) (eq-eqb one.0 one.0 refl)

  earlier : (x : Given) → Has before x → Has (before ++ one ∷ []) x
  earlier x h = (h.0, slice_get-append_left before (one ∷ []) h.0 x h.1)

  this : (id : ℕ) (result : List ℕ) → IsThis one.1 id result → Has (before ++ one ∷ []) (one.0, record { id = id; result = result })
  this id result t = (
    length before,
    slice_get-append_at before one [] ∙ (λ i. Some (one.0, record { id = t.same_id i; result = t.same_result i })),
  )

  -- of its client
  here : (o : Option Account) → IsKeptOf before one.0 o → is_new_to WINDOW o one.1.id ≡ true
      → AccountOf (before ++ one ∷ []) one.0 (account_with WINDOW o one.1)
  here None h new = record {
    holds =
        subst (λ (ids : List ℕ). Holds WINDOW ids (account_with WINDOW None one.1))
        (sym (ids_here ∙ ap (λ (ids : List ℕ). ids ++ one.1.id ∷ []) h)) (first_holds WINDOW (omega arith) one.1);
    given = λ id result g. elim (kept_is_new_or_old WINDOW None one.1 id result g) [
      | inl t ↦ this id result t
      | inr none ↦ absurd cc
    ];
  }
  here (Some old) h new = record {
    holds =
        subst (λ (ids : List ℕ). Holds WINDOW ids (account_with WINDOW (Some old) one.1)) (sym ids_here)
        (more_holds WINDOW (ids_for one.0 before) old one.1 h.holds new);
    given = λ id result g. elim (kept_is_new_or_old WINDOW (Some old) one.1 id result g) [
      | inl t ↦ this id result t
      | inr kept ↦ earlier (one.0, record { id = id; result = result }) (h.given id result kept)
    ];
  }

  -- of another
  other : (c : ℕ) (o : Option Account) → IsKeptOf before c o → ids_for c (before ++ one ∷ []) ≡ ids_for c before
      → IsKeptOf (before ++ one ∷ []) c o
  other c None h e = e ∙ h
  other c (Some a) h e = record {
    holds = subst (λ (ids : List ℕ). Holds WINDOW ids a) (sym e) h.holds;
    given = λ id result g. earlier (c, record { id = id; result = result }) (h.given id result g);
  }

  kept_push : (c : ℕ) (b : Bool) → eqb one.0 c ≡ b
      → IsKeptOf (before ++ one ∷ []) c (cond b (Some (account_with WINDOW (kept_for table one.0) one.1)) (kept_for table c))
  kept_push c true e =
      subst (λ (k : ℕ). AccountOf (before ++ one ∷ []) k (account_with WINDOW (kept_for table one.0) one.1)) (eqb-true one.0 c e)
      (here (kept_for table one.0) (so_far one.0) (new_by_verdict (kept_for table one.0) one.1.id ∙ ap is_fresh fresh))
  kept_push c false e =
      other c (kept_for table c) (so_far c)
      (ids_push c ∙ ap (λ (b : Bool). ids_for c before ++ cond b (one.1.id ∷ []) []) e ∙ append-nil (ids_for c before))

  kept_next : (c : ℕ) → IsKeptOf (before ++ one ∷ []) c (kept_for (with_result WINDOW table one.0 one.1) c)
  kept_next c = rw (kept_of_with_result table one.0 one.1 c) (kept_push c (eqb one.0 c) refl)

kept_of_run : (before : List Given) (table : Table) (givens : List Given) → ((c : ℕ) → IsKeptOf before c (kept_for table c))
    → EachIsFresh table givens → (c : ℕ) → IsKeptOf (before ++ givens) c (kept_for (kept_after table givens) c)
kept_of_run before table [] so_far each c = let e : before ++ [] ≡ before = append-nil before in rw e (so_far c)
kept_of_run before table (g ∷ givens) so_far each c =
    let e : (before ++ g ∷ []) ++ givens ≡ before ++ g ∷ givens = append_assoc before (g ∷ []) givens in
    rw e at (kept_of_run (before ++ g ∷ []) (with_result WINDOW table g.0 g.1) givens (kept_next before table g so_far each.0) each.1 c)

-- ---- verdicts

module _ (givens : List Given) (client id : ℕ) where
  by_account : (a : Account) → AccountOf givens client a → IsVerdict givens client id (verdict_on (Some a) id)
  by_account a h = on (is_new_to WINDOW (Some a) id) refl (result_in a.kept id) refl
    where
      ids : List ℕ
      ids = ids_for client givens

      far : result_in a.kept id ≡ None → is_new_to WINDOW (Some a) id ≡ false → nat_lt a.greatest (id + WINDOW) ≡ false
      far none old = elim (and_cases (nat_lt a.greatest (id + WINDOW)) (not (is_in (kept_ids a.kept) id)) old) [
        | inl f ↦ f
        | inr there ↦
            let is : is_in (kept_ids a.kept) id ≡ true = not-false (is_in (kept_ids a.kept) id) there in
            absurd (let both : is_some (result_in a.kept id) ≡ true = has_result a.kept id ∙ is in
            let neither : false ≡ true = sym (ap is_some none) ∙ both in cc)
      ]

      on : (b : Bool) → is_new_to WINDOW (Some a) id ≡ b → (o : Option (List ℕ)) → result_in a.kept id ≡ o
          → IsVerdict givens client id (cond b Fresh (verdict_by_result o))
      on true e o f = sym (account_tells_new WINDOW ids a h.holds id) ∙ e
      on false e (Some result) f = h.given id result f
      on false e None f =
          let high = ltb-false a.greatest (id + WINDOW) (far f e) in
          let is : greatest ids ≡ a.greatest = greatest_is ids a.greatest h.holds.greatest in
          le-leb (id + WINDOW) (greatest ids) (omega (arith, high, is))

  by_kept : (o : Option Account) → IsKeptOf givens client o → IsVerdict givens client id (verdict_on o id)
  by_kept None h = rw h (and_from (nat_lt 0 (id + WINDOW)) true (lt-ltb 0 (id + WINDOW) (omega arith)) refl)
  by_kept (Some a) h = by_account a h

-- a verdict compares with all ids that were given for the client
pub verdict_is_by_ids : (givens : List Given) (client id : ℕ) → EachIsFresh finite.empty givens
    → IsVerdict givens client id (verdict_on (kept_for (kept_after finite.empty givens) client) id)
verdict_is_by_ids givens client id each =
    by_kept givens client id (kept_for (kept_after finite.empty givens) client)
    (kept_of_run [] finite.empty givens (λ c. rw (finite.get-empty nat_cmp c) refl) each client)
