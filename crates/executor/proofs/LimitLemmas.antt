-- Every execution of a log in its ranges is within the limits: its host is in a state that ops lead to, it has no more clients than are
-- served, and of each it keeps what may be saved.
use Rattle.std.proofs.Common.{◌≡◌, ℕ, ◌+◌, ◌<◌, ◌≤◌, Bool, true, false, cond, List, [], ◌∷◌, length, Option, Some, None, is_some}
use Rattle.std.proofs.Common.{refl, sym, subst, ◌∙◌, inl, inr, arith}
use Rattle.std.proofs.Math.Dec.{T}
use Rattle.std.specs.Prelude.{◌&&◌, ◌||◌, nat_le, nat_lt, option_map, IfSome, IsTrue}
use Rattle.std.specs.List.{AllByRecursion}
use Rattle.std.specs.Option.{unwrap_or}
use Rattle.std.specs.Cmp.{nat_cmp_is}
use Rattle.std.specs.declared.cmp.Ordering.{Ordering}
use Rattle.std.specs.declared.cmp.Ordering.TheVariants.{Less, Equal, Greater}
use Rattle.std.specs.Ordering.{nat_cmp, eq_by_cmp, is_lt}
use Rattle.std.specs.FinMap as finite
use Rattle.std.specs.FinMap.Entries.{by_order, put, find, is_sorted, below_all}
use Rattle.std.proofs.lemmas.Bool.{and_from, and_parts, le-leb, leb-true, ltb-true, cases_order}
use Rattle.std.proofs.lemmas.Cmp.{nat_cmp_total}
use Rattle.nop_types.specs.declared.limits.TheConstants.{MAX_RESULT_BYTES, MAX_HOST_BYTES, MAX_SERVED, WINDOW}
use Rattle.nop_types.specs.declared.request.Entry.{Entry}
use Rattle.nop_types.specs.declared.request.Entry.TheVariants.{NoOp, Req}
use Rattle.nop_types.specs.declared.checkpoint.Answered.{Answered}
use Rattle.nop_types.specs.Meaning.{Meaning}
use Rattle.nop_types.specs.Tables.{Account, Table, kept_for, result_kept, is_new_to, serves, account_with}
use Rattle.nop_types.specs.Execution.{Executed, opening, execute, takes, enter_kept, exec_kept}
use Rattle.nop_types.specs.Checkpoints.{Checkpoint, CheckpointFits, checkpoint_of, is_checkpoint, is_kept, are_answers, is_account}
use Rattle.nop_types.specs.Checkpoints.{are_saved, KeepsTo}
use Rattle.nop_types.specs.CheckpointedLogs.{beginning}
use Rattle.nop_types.specs.Ranges.{EntryFits}
use Rattle.execution_laws.proofs.Saving.{len-from_entries}
use Rattle.lemmas.proofs.Kept.{answer_is, account_is, result_is_short}

-- ---- what may be saved of each client

abbrev MayBeSaved : Account → Type 0
MayBeSaved a = IsTrue (is_account a)

abbrev EachMayBeSaved : List (ℕ × Account) → Type 0
EachMayBeSaved es = AllByRecursion (λ e. MayBeSaved e.1) es

saved_put : (client : ℕ) (a : Account) (es : List (ℕ × Account)) → MayBeSaved a → EachMayBeSaved es
    → EachMayBeSaved (put nat_cmp client a es)
saved_put client a [] one all = (one, tt)
saved_put client a (e ∷ es) one all = on (nat_cmp client e.0) (saved_put client a es one all.1)
  where
    on : (o : Ordering) → EachMayBeSaved (put nat_cmp client a es)
        → EachMayBeSaved (by_order o ((client, a) ∷ e ∷ es) ((e.0, a) ∷ es) (e ∷ put nat_cmp client a es))
    on Less later = (one, all)
    on Equal later = (one, all.1)
    on Greater later = (all.0, later)

saved_found : (client : ℕ) (es : List (ℕ × Account)) → EachMayBeSaved es → IfSome (find nat_cmp client es) (λ a. MayBeSaved a)
saved_found client [] all = tt
saved_found client (e ∷ es) all = on (eq_by_cmp nat_cmp client e.0) (saved_found client es all.1)
  where
    on : (t : Bool) → IfSome (find nat_cmp client es) (λ a. MayBeSaved a)
        → IfSome (cond t (Some e.1) (find nat_cmp client es)) (λ a. MayBeSaved a)
    on true rest = all.0
    on false rest = rest

-- ---- tables

pub record TableFits (t : Table) : Type 0 where
  pub served : finite.len t ≤ MAX_SERVED
  pub each : EachMayBeSaved (finite.entries t)

saved_kept : (t : Table) (client : ℕ) → EachMayBeSaved (finite.entries t) → IfSome (kept_for t client) (λ a. MayBeSaved a)
saved_kept t client all =
    subst (λ (o : Option Account). IfSome o (λ a. MayBeSaved a)) (sym (finite.get-entries t client))
    (saved_found client (finite.entries t) all)

saved_insert : (t : Table) (client : ℕ) (a : Account) → MayBeSaved a → EachMayBeSaved (finite.entries t)
    → EachMayBeSaved (finite.entries (finite.insert t client a))
saved_insert t client a one all =
    subst EachMayBeSaved (sym (finite.entries-insert nat_cmp_total t client a)) (saved_put client a (finite.entries t) one all)

abbrev empty : Table
empty = finite.empty

empty_len : finite.len empty ≡ 0
empty_len = finite.len-empty nat_cmp Account

empty_fits : TableFits empty
empty_fits = record {
  served = let none = empty_len in omega arith;
  each = subst EachMayBeSaved (sym (nothing (finite.entries empty) (sym (finite.len-entries empty) ∙ empty_len))) tt;
}
  where
    nothing : (es : List (ℕ × Account)) → length es ≡ 0 → es ≡ []
    nothing [] h = refl
    nothing (e ∷ es) h = absurd (omega (arith, h))

-- a client more, where it is served
insert_fits : (t : Table) (client : ℕ) (a : Account) → serves t client ≡ true → MayBeSaved a → TableFits t
    → TableFits (finite.insert t client a)
insert_fits t client a serves one h = record {
  served =
      on (is_some (kept_for t client)) (nat_lt (finite.len t) MAX_SERVED) refl serves (finite.len-insert nat_cmp_total t client a);
  each = saved_insert t client a one h.each;
}
  where
    on : (there room : Bool) → nat_lt (finite.len t) MAX_SERVED ≡ room → (there || room) ≡ true
        → finite.len (finite.insert t client a) ≡ cond there (finite.len t) (finite.len t + 1)
        → finite.len (finite.insert t client a) ≤ MAX_SERVED
    on true room e f len = let old = h.served in omega arith
    on false true e f len = let less = ltb-true (finite.len t) MAX_SERVED e in omega arith
    on false false e f len = absurd cc

-- the clients of a checkpoint
saved_each : (least : ℕ) (es : List (ℕ × Account)) → are_saved least es ≡ true → EachMayBeSaved es
saved_each least [] h = tt
saved_each least (e ∷ es) h =
    let rest = and_parts (is_account e.1) (are_saved (e.0 + 1) es) (and_parts (nat_le least e.0) _ h).1 in
    (rest.0, saved_each (e.0 + 1) es rest.1)

loaded_each : (es : List (ℕ × Account)) → EachMayBeSaved es → EachMayBeSaved (finite.entries (finite.from_entries {R = nat_cmp} es))
loaded_each [] all = empty_fits.each
loaded_each (e ∷ es) all = saved_insert (finite.from_entries es) e.0 e.1 all.0 (loaded_each es all.1)

loaded_fits : (c : Checkpoint) → CheckpointFits c → TableFits (finite.from_entries c.clients)
loaded_fits c h =
    let rest = and_parts (nat_le (length c.clients) MAX_SERVED) (are_saved 0 c.clients)
    (and_parts (nat_le (length c.host) MAX_HOST_BYTES) _ h.limits).1 in
    record {
      served =
          let most = leb-true (length c.clients) MAX_SERVED rest.0 in
          let less = len-from_entries c.clients in
          omega arith;
      each = loaded_each c.clients (saved_each 0 c.clients rest.1);
    }

-- ---- clients ascend, in the table's order

first_of : (a b : Bool) → T (a && b) → T a
first_of true b h = tt
first_of false b h = absurd h

second_of : (a b : Bool) → T (a && b) → T b
second_of true b h = h
second_of false b h = absurd h

less_from : (a b : ℕ) → T (is_lt (nat_cmp a b)) → a < b
less_from a b h = elim (cases_order a b) [
  | inl same ↦ absurd (subst (λ (o : Ordering). T (is_lt o)) (sym (nat_cmp_is a b Equal same)) h)
  | inr apart ↦ elim apart [
    | inl less ↦ less
    | inr more ↦ absurd (subst (λ (o : Ordering). T (is_lt o)) (sym (nat_cmp_is a b Greater more)) h)
  ]
]

abbrev EachFrom : ℕ → List (ℕ × Account) → Type 0
EachFrom least es = AllByRecursion (λ e. least ≤ e.0) es

from_zero : (es : List (ℕ × Account)) → EachFrom 0 es
from_zero [] = tt
from_zero (e ∷ es) = (omega arith, from_zero es)

above : (k : ℕ) (es : List (ℕ × Account)) → T (below_all nat_cmp k es) → EachFrom (k + 1) es
above k [] h = tt
above k (e ∷ es) h = (
  let less : k < e.0 = less_from k e.0 (first_of (is_lt (nat_cmp k e.0)) (below_all nat_cmp k es) h) in omega arith,
  above k es (second_of (is_lt (nat_cmp k e.0)) (below_all nat_cmp k es) h),
)

ascending : (least : ℕ) (es : List (ℕ × Account)) → T (is_sorted nat_cmp es) → EachFrom least es → EachMayBeSaved es
    → are_saved least es ≡ true
ascending least [] sorted from each = refl
ascending least (e ∷ es) sorted from each =
    and_from (nat_le least e.0) (is_account e.1 && are_saved (e.0 + 1) es) (le-leb least e.0 from.0)
    (and_from (is_account e.1) (are_saved (e.0 + 1) es) each.0
    (ascending (e.0 + 1) es (second_of (below_all nat_cmp e.0 es) (is_sorted nat_cmp es) sorted)
    (above e.0 es (first_of (below_all nat_cmp e.0 es) (is_sorted nat_cmp es) sorted)) each.1))

-- ---- executions

module _ {S : Type 0} (m : Meaning S) (IsSound : S → Type 0) (keeps : KeepsTo m IsSound) where
  -- where an execution begins, whatever the checkpoint is
  beginning_is_sound : (o : Option Checkpoint) → IsSound (beginning m o).host
  beginning_is_sound None = keeps.opens
  beginning_is_sound (Some c) = on (m.loaded c.host) refl
    where
      on : (o : Option S) → m.loaded c.host ≡ o
          → IsSound (unwrap_or (option_map (λ host. record { host = host; table = finite.from_entries c.clients }) o) (opening m)).host
      on None e = keeps.opens
      on (Some s) e = (keeps.only c.host s e).0

  sound_entered : (x : Executed S) (e : Entry) → IsSound x.host → IsSound (enter_kept m x e).host
  sound_entered x NoOp h = h
  sound_entered x (Req r) h = on (takes x.table r)
    where
      on : (b : Bool) → IsSound (cond b (execute m x r) x).host
      on true = keeps.stays x.host r.op h
      on false = h

  sound_after : (x : Executed S) (entries : List Entry) → IsSound x.host → IsSound (exec_kept m x entries).host
  sound_after x [] h = h
  sound_after x (e ∷ entries) h = sound_after (enter_kept m x e) entries (sound_entered x e h)

  pub sound_of_log : (o : Option Checkpoint) (entries : List Entry) → IsSound (exec_kept m (beginning m o) entries).host
  sound_of_log o entries = sound_after (beginning m o) entries (beginning_is_sound o)

  beginning_fits : (o : Option Checkpoint) → IfSome o CheckpointFits → TableFits (beginning m o).table
  beginning_fits None h = empty_fits
  beginning_fits (Some c) h = on (m.loaded c.host)
    where
      on : (o : Option S)
          → TableFits (unwrap_or (option_map (λ host. record { host = host; table = finite.from_entries c.clients }) o) (opening m)).table
      on None = empty_fits
      on (Some s) = loaded_fits c h

  table_entered : (x : Executed S) (e : Entry) → EntryFits e → IsSound x.host → TableFits x.table → TableFits (enter_kept m x e).table
  table_entered x NoOp fits sound h = h
  table_entered x (Req r) fits sound h = on (takes x.table r) refl
    where
      on : (b : Bool) → takes x.table r ≡ b → TableFits (cond b (execute m x r) x).table
      on false e = h
      on true e =
          let a : Answered = record { id = r.id; result = m.answer x.host r.op } in
          let parts = and_parts (serves x.table r.client) (is_new_to WINDOW (kept_for x.table r.client) r.id) e in
          insert_fits x.table r.client (account_with WINDOW (kept_for x.table r.client) a) parts.0
          (account_is (kept_for x.table r.client) a (saved_kept x.table r.client h.each) parts.1
          (answer_is a fits.id_low (keeps.short x.host r.op sound))) h

  table_after : (x : Executed S) (entries : List Entry) → AllByRecursion EntryFits entries → IsSound x.host → TableFits x.table
      → TableFits (exec_kept m x entries).table
  table_after x [] fits sound h = h
  table_after x (e ∷ entries) fits sound h =
      table_after (enter_kept m x e) entries fits.1 (sound_entered x e sound) (table_entered x e fits.0 sound h)

  -- of entries in their ranges, after a checkpoint, if there is one, within the limits
  pub table_of_log : (o : Option Checkpoint) (entries : List Entry) → AllByRecursion EntryFits entries → IfSome o CheckpointFits
      → TableFits (exec_kept m (beginning m o) entries).table
  table_of_log o entries fits h = table_after (beginning m o) entries fits (beginning_is_sound o) (beginning_fits o h)

  pub checkpoint_fits : (x : Executed S) → IsSound x.host → TableFits x.table → IsTrue (is_checkpoint (checkpoint_of m x))
  checkpoint_fits x sound h =
      let es : List (ℕ × Account) = finite.entries x.table in
      and_from (nat_le (length (m.saved x.host)) MAX_HOST_BYTES) (nat_le (length es) MAX_SERVED && are_saved 0 es)
      (le-leb (length (m.saved x.host)) MAX_HOST_BYTES (keeps.fits x.host sound))
      (and_from (nat_le (length es) MAX_SERVED) (are_saved 0 es)
      (le-leb (length es) MAX_SERVED
      (let most = h.served in let len : finite.len x.table ≡ length es = finite.len-entries x.table in omega arith))
      (ascending 0 es (finite.entries_sorted x.table) (from_zero es) h.each))

-- a kept result is short
pub kept_result_fits : (t : Table) (client id : ℕ) → TableFits t
    → IfSome (result_kept (kept_for t client) id) (λ bytes. length bytes ≤ MAX_RESULT_BYTES)
kept_result_fits t client id h = on (kept_for t client) (saved_kept t client h.each)
  where
    on : (o : Option Account) → IfSome o (λ a. MayBeSaved a) → IfSome (result_kept o id) (λ bytes. length bytes ≤ MAX_RESULT_BYTES)
    on None saved = tt
    on (Some a) saved = result_is_short a.kept id (and_parts (is_kept a) (are_answers a.kept) saved).1
