-- A table of clients in their ranges, each with what may be saved of it, stays so.
use Rattle.std.proofs.Common.{◌≡◌, ℕ, ◌+◌, ◌^◌, ◌≤◌, ◌<◌, Bool, true, false, cond, List, [], ◌∷◌, length, Option}
use Rattle.std.proofs.Common.{Some, None, is_some, refl, sym, subst, ◌∙◌, arith}
use Rattle.std.proofs.Math.Dec.{T}
use Rattle.std.specs.Prelude.{◌&&◌, ◌||◌, nat_le, nat_lt, IfSome, IsTrue}
use Rattle.std.specs.List.{AllByRecursion}
use Rattle.std.specs.Cmp.{ranked, unsigned_tied}
use Rattle.std.specs.declared.cmp.Ordering.{Ordering}
use Rattle.std.specs.declared.cmp.Ordering.TheVariants.{Less, Equal, Greater}
use Rattle.std.specs.Ordering.{nat_cmp, eq_by_cmp, is_lt}
use Rattle.std.specs.FinMap as finite
use Rattle.std.specs.FinMap.Entries.{put, by_order, is_sorted, below_all}
use Rattle.std.proofs.lemmas.Bool.{and_from, and_parts, eqb-true, ltb-true, le-leb, leb-true}
use Rattle.std.proofs.lemmas.Cmp.{nat_cmp_total}
use Rattle.nop_types.specs.declared.checkpoint.Answered.{Answered}
use Rattle.nop_types.specs.declared.limits.TheConstants.{MAX_RESULT_BYTES, MAX_SERVED, WINDOW}
use Rattle.nop_types.specs.Checkpoints.{is_kept, are_answers, is_account, are_saved, IsSavedAccount}
use Rattle.nop_types.specs.Tables.{Account, Table, kept_for, result_kept, is_new_to, serves, account_with, with_result}
use Rattle.execution_laws.proofs.Saving.{len-from_entries}
use Rattle.lemmas.proofs.Kept.{answer_is, account_is, result_is_short}
use Rattle.trimming.proofs.Worked.{entries-empty, entries-insert}

-- a client in its ranges, and what may be saved of it
pub record IsKept (e : ℕ × Account) : Type 0 where
  pub as_saved : IsSavedAccount e
  pub account : is_account e.1 ≡ true

pub record TableFits (t : Table) : Type 0 where
  pub few : finite.len t ≤ MAX_SERVED
  pub each : AllByRecursion IsKept (finite.entries t)

-- ---- lists of entries

put_kept : (es : List (ℕ × Account)) (c : ℕ) (a : Account) → IsKept (c, a) → AllByRecursion IsKept es
    → AllByRecursion IsKept (put nat_cmp c a es)
put_kept [] c a one all = (one, tt)
put_kept (e ∷ es) c a one all = on (nat_cmp c e.0) refl (put_kept es c a one all.1)
  where
    on : (r : Ordering) → nat_cmp c e.0 ≡ r → AllByRecursion IsKept (put nat_cmp c a es)
        → AllByRecursion IsKept (by_order r ((c, a) ∷ e ∷ es) ((e.0, a) ∷ es) (e ∷ put nat_cmp c a es))
    on Less p rest = (one, all)
    on Equal p rest = (subst (λ (k : ℕ). IsKept (k, a)) (finite.nat_cmp-IsAntisymmetric c e.0 p) one, all.1)
    on Greater p rest = (all.0, rest)

found_is_kept : (es : List (ℕ × Account)) (q : ℕ) (a : Account) → AllByRecursion IsKept es → finite.find nat_cmp q es ≡ Some a
    → IsKept (q, a)
found_is_kept [] q a all h = absurd cc
found_is_kept (e ∷ es) q a all h = on (eq_by_cmp nat_cmp q e.0) refl h (found_is_kept es q a all.1)
  where
    on : (b : Bool) → eq_by_cmp nat_cmp q e.0 ≡ b → cond b (Some e.1) (finite.find nat_cmp q es) ≡ Some a
        → (finite.find nat_cmp q es ≡ Some a → IsKept (q, a)) → IsKept (q, a)
    on true p g more =
        let key : e.0 ≡ q = sym (eqb-true q e.0 (sym (unsigned_tied q e.0) ∙ p)) in
        let value : e.1 ≡ a = cc in
        subst IsKept (λ i. (key i, value i)) all.0
    on false p g more = more g

-- ---- tables

pub kept_is_kept : (t : Table) (c : ℕ) (a : Account) → TableFits t → kept_for t c ≡ Some a → IsKept (c, a)
kept_is_kept t c a h e = found_is_kept (finite.entries t) c a h.each (sym (finite.get-entries t c) ∙ e)

pub empty_fits : TableFits (finite.empty {X = Account} {R = nat_cmp})
empty_fits = record {
  few = let none : finite.len (finite.empty {X = Account} {R = nat_cmp}) ≡ 0 = finite.len-empty nat_cmp Account in omega (arith, none);
  each = rw entries-empty tt;
}

loaded_each : (es : List (ℕ × Account)) → AllByRecursion IsKept es
    → AllByRecursion IsKept (finite.entries (finite.from_entries {R = nat_cmp} es))
loaded_each [] h = rw entries-empty tt
loaded_each (e ∷ es) h =
    let t : Table = finite.from_entries es in
    rw (entries-insert t e.0 e.1) (put_kept (finite.entries t) e.0 e.1 h.0 (loaded_each es h.1))

saved_are_kept : (least : ℕ) (es : List (ℕ × Account)) → IsTrue (are_saved least es) → AllByRecursion IsSavedAccount es
    → AllByRecursion IsKept es
saved_are_kept least [] h all = tt
saved_are_kept least (e ∷ es) h all =
    let here = and_parts (is_account e.1) (are_saved (e.0 + 1) es) (and_parts (nat_le least e.0) _ h).1 in
    (record { as_saved = all.0; account = here.0 }, saved_are_kept (e.0 + 1) es here.1 all.1)

-- of saved clients
pub loaded_fits : (es : List (ℕ × Account)) → IsTrue (nat_le (length es) MAX_SERVED) → IsTrue (are_saved 0 es)
    → AllByRecursion IsSavedAccount es → TableFits (finite.from_entries es)
loaded_fits es few saved all = record {
  few = omega (arith, leb-true (length es) MAX_SERVED few, len-from_entries es);
  each = loaded_each es (saved_are_kept 0 es saved all);
}

-- ---- a result more

may_be_saved : (o : Option Account) (c : ℕ) → ((old : Account) → o ≡ Some old → IsKept (c, old)) → IfSome o (λ old. is_account old ≡ true)
may_be_saved None c kept = tt
may_be_saved (Some old) c kept = (kept old refl).account

greatest_fits : (o : Option Account) (c : ℕ) (a : Answered) → ((old : Account) → o ≡ Some old → IsKept (c, old)) → a.id < 2 ^ 64
    → (account_with WINDOW o a).greatest < 2 ^ 64
greatest_fits None c a kept id = id
greatest_fits (Some old) c a kept id = let before = (kept old refl).as_saved.greatest in omega (arith, before, id)

pub with_result_fits : (t : Table) (c : ℕ) (a : Answered) → c < 2 ^ 32 → 1 ≤ a.id → a.id < 2 ^ 64 → length a.result ≤ MAX_RESULT_BYTES
    → TableFits t → (serves t c && is_new_to WINDOW (kept_for t c) a.id) ≡ true → TableFits (with_result WINDOW t c a)
with_result_fits t c a low id_low id short h taken = record {
  few = len_fits (is_some (kept_for t c)) parts.0 (finite.len-insert nat_cmp_total t c new);
  each = rw (entries-insert t c new) (put_kept (finite.entries t) c new kept h.each);
}
  where
    new : Account
    new = account_with WINDOW (kept_for t c) a

    parts : (serves t c ≡ true) × (is_new_to WINDOW (kept_for t c) a.id ≡ true)
    parts = and_parts (serves t c) (is_new_to WINDOW (kept_for t c) a.id) taken

    len_fits : (b : Bool) → (b || nat_lt (finite.len t) MAX_SERVED) ≡ true
        → finite.len (finite.insert t c new) ≡ cond b (finite.len t) (finite.len t + 1) → finite.len (finite.insert t c new) ≤ MAX_SERVED
    len_fits true e len = omega (arith, len, h.few)
    len_fits false e len = omega (arith, len, ltb-true (finite.len t) MAX_SERVED e)

    before : (old : Account) → kept_for t c ≡ Some old → IsKept (c, old)
    before old e = kept_is_kept t c old h e

    kept : IsKept (c, new)
    kept = record {
      as_saved = record { client = low; greatest = greatest_fits (kept_for t c) c a before id };
      account = account_is (kept_for t c) a (may_be_saved (kept_for t c) c before) parts.1 (answer_is a id_low short);
    }

-- what is kept with an id is short
pub kept_result_is_short : (t : Table) (c id : ℕ) (result : List ℕ) → TableFits t → result_kept (kept_for t c) id ≡ Some result
    → length result ≤ MAX_RESULT_BYTES
kept_result_is_short t c id result h e = on (kept_for t c) refl e
  where
    on : (o : Option Account) → kept_for t c ≡ o → result_kept o id ≡ Some result → length result ≤ MAX_RESULT_BYTES
    on None f g = absurd cc
    on (Some a) f g =
        subst (λ (r : Option (List ℕ)). IfSome r (λ bytes. length bytes ≤ MAX_RESULT_BYTES)) g
        (result_is_short a.kept id (and_parts (is_kept a) (are_answers a.kept) (kept_is_kept t c a h f).account).1)

-- ---- a table is saved

less_from : (a b : ℕ) → T (is_lt (nat_cmp a b)) → a < b
less_from a b h = on (nat_cmp a b) refl h
  where
    on : (o : Ordering) → nat_cmp a b ≡ o → T (is_lt o) → a < b
    on Less e p = ranked a b Less (sym e)
    on Equal e p = absurd p
    on Greater e p = absurd p

first_of : (a b : Bool) → T (a && b) → T a
first_of true b h = tt
first_of false b h = absurd h

second_of : (a b : Bool) → T (a && b) → T b
second_of true b h = h
second_of false b h = absurd h

above_are_saved : (k : ℕ) (es : List (ℕ × Account)) → T (below_all nat_cmp k es) → T (is_sorted nat_cmp es) → AllByRecursion IsKept es
    → are_saved (k + 1) es ≡ true
above_are_saved k [] low sorted h = refl
above_are_saved k (e ∷ es) low sorted h =
    let less : k < e.0 = less_from k e.0 (first_of (is_lt (nat_cmp k e.0)) (below_all nat_cmp k es) low) in
    and_from (nat_le (k + 1) e.0) (is_account e.1 && are_saved (e.0 + 1) es) (le-leb (k + 1) e.0 (omega (arith, less)))
    (and_from (is_account e.1) (are_saved (e.0 + 1) es) h.0.account
    (above_are_saved e.0 es (first_of (below_all nat_cmp e.0 es) (is_sorted nat_cmp es) sorted)
    (second_of (below_all nat_cmp e.0 es) (is_sorted nat_cmp es) sorted) h.1))

sorted_are_saved : (es : List (ℕ × Account)) → T (is_sorted nat_cmp es) → AllByRecursion IsKept es → are_saved 0 es ≡ true
sorted_are_saved [] sorted h = refl
sorted_are_saved (e ∷ es) sorted h =
    and_from (nat_le 0 e.0) (is_account e.1 && are_saved (e.0 + 1) es) (le-leb 0 e.0 (omega arith))
    (and_from (is_account e.1) (are_saved (e.0 + 1) es) h.0.account
    (above_are_saved e.0 es (first_of (below_all nat_cmp e.0 es) (is_sorted nat_cmp es) sorted)
    (second_of (below_all nat_cmp e.0 es) (is_sorted nat_cmp es) sorted) h.1))

kept_as_saved : (es : List (ℕ × Account)) → AllByRecursion IsKept es → AllByRecursion IsSavedAccount es
kept_as_saved [] h = tt
kept_as_saved (e ∷ es) h = (h.0.as_saved, kept_as_saved es h.1)

pub entries_are_few : (t : Table) → TableFits t → nat_le (length (finite.entries t)) MAX_SERVED ≡ true
entries_are_few t h =
    let len : finite.len t ≡ length (finite.entries t) = finite.len-entries t in
    le-leb (length (finite.entries t)) MAX_SERVED (omega (arith, len, h.few))

pub entries_are_saved : (t : Table) → TableFits t → are_saved 0 (finite.entries t) ≡ true
entries_are_saved t h = sorted_are_saved (finite.entries t) (finite.entries_sorted t) h.each

pub entries_as_saved : (t : Table) → TableFits t → AllByRecursion IsSavedAccount (finite.entries t)
entries_as_saved t h = kept_as_saved (finite.entries t) h.each
