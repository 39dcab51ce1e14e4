-- Laws of the table: by client, and that what was kept is taken out again; of verdicts; of what is saved.
use Rattle.std.proofs.Common.{◌≡◌, ℕ, ◌+◌, Bool, true, false, cond, eqb, List, [], ◌∷◌, Option, Some, None, refl, sym, ap, subst, ◌∙◌}
use Rattle.std.specs.Prelude.{◌==◌, ◌||◌, IsSome, is_some, nat_le, not}
use Rattle.std.proofs.lemmas.Bool.{eqb-true, eq-eqb, and_parts}
use Rattle.std.specs.Ordering.{nat_cmp, eq_by_cmp}
use Rattle.std.specs.Cmp.{unsigned_tied}
use Rattle.std.proofs.lemmas.Cmp.{nat_cmp_total, eq_by_cmp_equiv}
use Rattle.std.specs.FinMap as finite
use Rattle.nop_types.specs.declared.limits.TheConstants.{WINDOW}
use Rattle.nop_types.specs.Lists.{is_in}
use Rattle.nop_types.specs.declared.checkpoint.Answered.{Answered}
use Rattle.nop_types.specs.Tables.{Account, Table, kept_for, kept_ids, result_in, result_kept, is_new_to, account_with, with_result}
use Rattle.nop_types.specs.Checkpoints.{are_saved, are_answers, is_account, is_kept}
use Rattle.execution_laws.proofs.Accounts.{kept_for-insert}
use Rattle.lemmas.proofs.Kept.{first_is_kept, kept_back, more_is_kept}
use Rattle.client_table.specs.Table.{Fresh, is_fresh, result_of, verdict_by_result, verdict_on, former_of, put_back, put_on, unkept}
use Rattle.client_table.specs.Table.{AllKept, MayReturn, account_before, removed_for, removed_from}

-- ---- by client

pub tie : (client q : ℕ) → eq_by_cmp nat_cmp q client ≡ eqb client q
tie client q = (eq_by_cmp_equiv nat_cmp_total).symm q client ∙ unsigned_tied client q

pub kept_of_with_result : (table : Table) (client : ℕ) (a : Answered) (q : ℕ)
    → kept_for (with_result WINDOW table client a) q
    ≡ cond (eqb client q) (Some (account_with WINDOW (kept_for table client) a)) (kept_for table q)
kept_of_with_result table client a q = kept_for-insert table client (account_with WINDOW (kept_for table client) a) q

pub kept_of_remove : (table : Table) (client : ℕ) (q : ℕ)
    → kept_for (finite.remove table client) q ≡ cond (eqb client q) None (kept_for table q)
kept_of_remove table client q =
    finite.get-remove nat_cmp_total table client q ∙ ap (λ (b : Bool). cond b None (kept_for table q)) (tie client q)

pub same_table : (t u : Table) → ((client : ℕ) → kept_for t client ≡ kept_for u client) → t ≡ u
same_table t u h = finite.same_map nat_cmp_total finite.nat_cmp-IsAntisymmetric t u h

-- ---- what was kept is taken out again

-- where a client is read, what was written before does not count
twice : (b : Bool) (v w o : Option Account) → (b ≡ true → v ≡ o) → cond b v (cond b w o) ≡ o
twice true v w o h = h refl
twice false v w o h = refl

at_itself : (n : ℕ) (v o : Option Account) → cond (eqb n n) v o ≡ v
at_itself n v o = ap (λ (b : Bool). cond b v o) (eq-eqb n n refl)

pub kept_here : (table : Table) (client : ℕ) (a : Answered)
    → kept_for (with_result WINDOW table client a) client ≡ Some (account_with WINDOW (kept_for table client) a)
kept_here table client a =
    kept_of_with_result table client a client
    ∙ at_itself client (Some (account_with WINDOW (kept_for table client) a)) (kept_for table client)

-- the account before, where a result is taken out of it again
back_on : (old : Account) (a : Answered) → is_kept old ≡ true → is_new_to WINDOW (Some old) a.id ≡ true
    → account_before (account_with WINDOW (Some old) a) a.id (removed_from old a.id) ≡ old
back_on old a h new = λ i. record { greatest = old.greatest; kept = kept_back old a h new i }

pub unkept_is_before : (table : Table) (client : ℕ) (a : Answered) → AllKept table
    → is_new_to WINDOW (kept_for table client) a.id ≡ true
    → unkept (with_result WINDOW table client a) (former_of table client a.id) ≡ table
unkept_is_before table client a all new = on (kept_for table client) refl new
  where
    now : Table
    now = with_result WINDOW table client a

    written : (o : Option Account) → kept_for table client ≡ o → (q : ℕ)
        → kept_for (with_result WINDOW table client a) q ≡ cond (eqb client q) (Some (account_with WINDOW o a)) (kept_for table q)
    written o e q =
        kept_of_with_result table client a q
        ∙ ap (λ (p : Option Account). cond (eqb client q) (Some (account_with WINDOW p a)) (kept_for table q)) e

    on : (o : Option Account) → kept_for table client ≡ o → is_new_to WINDOW o a.id ≡ true
        → put_back (with_result WINDOW table client a) client a.id (removed_for o a.id) ≡ table
    on None e n =
        same_table _ table (λ q.
        kept_of_remove (with_result WINDOW table client a) client q
        ∙ ap (cond (eqb client q) None) (written None e q)
        ∙ twice (eqb client q) None (Some (account_with WINDOW None a)) (kept_for table q)
        (λ s. sym e ∙ ap (kept_for table) (eqb-true client q s)))
    on (Some old) e n =
        let here : kept_for (with_result WINDOW table client a) client ≡ Some (account_with WINDOW (Some old) a) =
        kept_here table client a ∙ ap (λ (p : Option Account). Some (account_with WINDOW p a)) e in
        let back = back_on old a (all client old e) n in
        ap (put_on (with_result WINDOW table client a) client a.id (removed_from old a.id)) here
        ∙ ap (finite.insert (with_result WINDOW table client a) client) back
        ∙ same_table _ table (λ q.
        kept_for-insert (with_result WINDOW table client a) client old q
        ∙ ap (cond (eqb client q) (Some old)) (written (Some old) e q)
        ∙ twice (eqb client q) (Some old) (Some (account_with WINDOW (Some old) a)) (kept_for table q)
        (λ s. sym e ∙ ap (kept_for table) (eqb-true client q s)))

-- and it may be taken out
pub may_return : (table : Table) (client : ℕ) (a : Answered) → AllKept table → is_new_to WINDOW (kept_for table client) a.id ≡ true
    → MayReturn (kept_for (with_result WINDOW table client a) client) a.id (removed_for (kept_for table client) a.id)
may_return table client a all new =
    subst (λ (o : Option Account). MayReturn o a.id (removed_for (kept_for table client) a.id)) (sym (kept_here table client a))
    (on (kept_for table client) refl new)
  where
    on : (o : Option Account) → kept_for table client ≡ o → is_new_to WINDOW o a.id ≡ true
        → MayReturn (Some (account_with WINDOW o a)) a.id (removed_for o a.id)
    on None e n = tt
    on (Some old) e n = ap is_kept (back_on old a (all client old e) n) ∙ all client old e

-- ---- each account keeps what may be kept

pub none_kept : AllKept finite.empty
none_kept client a e = absurd (let none = finite.get-empty nat_cmp client in let f = sym none ∙ e in cc)

pub all_kept_with : (table : Table) (client : ℕ) (a : Answered) → AllKept table → is_new_to WINDOW (kept_for table client) a.id ≡ true
    → AllKept (with_result WINDOW table client a)
all_kept_with table client a all new c x e = at (eqb client c) refl
  where
    on : (o : Option Account) → kept_for table client ≡ o → is_new_to WINDOW o a.id ≡ true → is_kept (account_with WINDOW o a) ≡ true
    on None is n = first_is_kept a
    on (Some old) is n = more_is_kept old a (all client old is) n

    at : (b : Bool) → eqb client c ≡ b → is_kept x ≡ true
    at true same =
        let f : Some (account_with WINDOW (kept_for table client) a) ≡ Some x =
        sym (kept_of_with_result table client a c
        ∙ ap (λ (b : Bool). cond b (Some (account_with WINDOW (kept_for table client) a)) (kept_for table c)) same) ∙ e in
        let is : account_with WINDOW (kept_for table client) a ≡ x = cc in
        subst (λ (y : Account). is_kept y ≡ true) is (on (kept_for table client) refl new)
    at false apart =
        all c x (sym (kept_of_with_result table client a c
        ∙ ap (λ (b : Bool). cond b (Some (account_with WINDOW (kept_for table client) a)) (kept_for table c)) apart) ∙ e)

-- of clients that are saved
found_kept : (least : ℕ) (es : List (ℕ × Account)) → are_saved least es ≡ true → (c : ℕ) (a : Account) → finite.find nat_cmp c es ≡ Some a
    → is_kept a ≡ true
found_kept least [] h c a e = absurd cc
found_kept least (x ∷ es) h c a e = on (eq_by_cmp nat_cmp c x.0) e (found_kept (x.0 + 1) es rest.1 c a)
  where
    rest : (is_account x.1 ≡ true) × (are_saved (x.0 + 1) es ≡ true)
    rest = and_parts (is_account x.1) (are_saved (x.0 + 1) es) (and_parts (nat_le least x.0) _ h).1

    on : (b : Bool) → cond b (Some x.1) (finite.find nat_cmp c es) ≡ Some a → (finite.find nat_cmp c es ≡ Some a → is_kept a ≡ true)
        → is_kept a ≡ true
    on true f more =
        let same : x.1 ≡ a = cc in
        subst (λ (y : Account). is_kept y ≡ true) same (and_parts (is_kept x.1) (are_answers x.1.kept) rest.0).0
    on false f more = more f

pub saved_kept : (es : List (ℕ × Account)) → are_saved 0 es ≡ true → AllKept (finite.from_entries es)
saved_kept es h c a e = found_kept 0 es h c a (sym (finite.get-from_entries nat_cmp_total es c) ∙ e)

-- the client of an account that was written has one
pub has_inserted : (table : Table) (client : ℕ) (account : Account) → IsSome (kept_for (finite.insert table client account) client)
has_inserted table client account =
    ap is_some (kept_for-insert table client account client ∙ at_itself client (Some account) (kept_for table client))

pub has_account : (table : Table) (client : ℕ) (a : Answered) → IsSome (kept_for (with_result WINDOW table client a) client)
has_account table client a = has_inserted table client (account_with WINDOW (kept_for table client) a)

-- ---- verdicts

-- a verdict is fresh exactly where the id is new
pub new_by_verdict : (kept : Option Account) (id : ℕ) → is_new_to WINDOW kept id ≡ is_fresh (verdict_on kept id)
new_by_verdict kept id = here (is_new_to WINDOW kept id) (result_kept kept id)
  where
    here : (b : Bool) (o : Option (List ℕ)) → b ≡ is_fresh (cond b Fresh (verdict_by_result o))
    here true o = refl
    here false None = refl
    here false (Some result) = refl

-- with an id that is none of those kept there is no result
no_result : (kept : List Answered) (id : ℕ) → is_in (kept_ids kept) id ≡ false → result_in kept id ≡ None
no_result [] id h = refl
no_result (a ∷ kept) id h = here (a.id == id) h (no_result kept id)
  where
    here : (b : Bool) → (b || is_in (kept_ids kept) id) ≡ false → (is_in (kept_ids kept) id ≡ false → result_in kept id ≡ None)
        → cond b (Some a.result) (result_in kept id) ≡ None
    here true e rest = absurd cc
    here false e rest = rest e

not_in : (b : Bool) → not b ≡ true → b ≡ false
not_in true h = absurd cc
not_in false h = refl

pub new_has_none : (kept : Option Account) (id : ℕ) → is_new_to WINDOW kept id ≡ true → result_kept kept id ≡ None
new_has_none None id h = refl
new_has_none (Some a) id h = no_result a.kept id (not_in (is_in (kept_ids a.kept) id) (and_parts _ (not (is_in (kept_ids a.kept) id)) h).1)

-- and the result that is kept with it is the one of the verdict
pub result_by_verdict : (kept : Option Account) (id : ℕ) → result_kept kept id ≡ result_of (verdict_on kept id)
result_by_verdict kept id = here (is_new_to WINDOW kept id) (result_kept kept id) (new_has_none kept id)
  where
    here : (b : Bool) (o : Option (List ℕ)) → (b ≡ true → o ≡ None) → o ≡ result_of (cond b Fresh (verdict_by_result o))
    here true o h = h refl
    here false None h = refl
    here false (Some result) h = refl

-- ---- what is saved
