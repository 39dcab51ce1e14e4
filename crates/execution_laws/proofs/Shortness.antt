-- A host with short answers leaves short results.
use Rattle.std.proofs.Common.{◌≡◌, ℕ, ◌+◌, ◌≤◌, ◌<◌, Bool, true, false, cond, eqb, List, [], ◌∷◌, length, take, max, Option, Some, None, refl, sym, subst}
use Rattle.std.proofs.Common.{◌∙◌, arith, inl, inr}
use Rattle.std.specs.Prelude.{nat_lt}
use Rattle.std.specs.FinMap as finite
use Rattle.std.specs.FinMap.Entries.{by_order, put}
use Rattle.std.specs.Ordering.{nat_cmp, eq_by_cmp}
use Rattle.std.specs.declared.cmp.Ordering.{Ordering}
use Rattle.std.specs.declared.cmp.Ordering.TheVariants.{Less, Equal, Greater}
use Rattle.std.proofs.lemmas.Cmp.{nat_cmp_total}
use Rattle.std.proofs.lemmas.Option.{slice_get_within}
use Rattle.nop_types.specs.declared.limits.TheConstants.{MAX_RESULT_BYTES, WINDOW}
use Rattle.nop_types.specs.declared.request.Request.{Request}
use Rattle.nop_types.specs.declared.request.Entry.{Entry}
use Rattle.nop_types.specs.Meaning.{Meaning}
use Rattle.nop_types.specs.Lists.{Has}
use Rattle.nop_types.specs.declared.checkpoint.Answered.{Answered}
use Rattle.nop_types.specs.Tables.{Account, kept_for, result_in, result_kept, with_answered, account_with}
use Rattle.nop_types.specs.Execution.{Executed, opening, execute, exec, result_at}
use Rattle.nop_types.specs.Histories.{history_of}
use Rattle.lemmas.proofs.Members.{Has-first, Has-rest, Has-none, Has-cases, Has-from_filter}
use Rattle.execution_laws.specs.Execution.{execute_all}
use Rattle.execution_laws.proofs.Steps.{exec_is_of_history}
use Rattle.execution_laws.proofs.Results.{result_is_kept, result_is_of_request}

abbrev pub AreShort : List Answered → Type 0
AreShort kept = (a : Answered) → Has kept a → length a.result ≤ MAX_RESULT_BYTES

abbrev pub EachIsShort : List (ℕ × Account) → Type 0
EachIsShort es = (e : ℕ × Account) → Has es e → AreShort e.1.kept

-- one more result in its place
short_with : (a : Answered) (kept : List Answered) → length a.result ≤ MAX_RESULT_BYTES → AreShort kept → AreShort (with_answered a kept)
short_with a [] one all b h = elim (Has-cases b a [] h) [
  | inl same ↦ subst (λ (t : Answered). length t.result ≤ MAX_RESULT_BYTES) (sym same) one
  | inr none ↦ absurd (Has-none b none)
]
short_with a (k ∷ kept) one all b h =
    on (nat_lt a.id k.id) h (short_with a kept one (λ c g. all c (Has-rest c k kept g)) b)
  where
    on : (t : Bool) → Has (cond t (a ∷ k ∷ kept) (k ∷ with_answered a kept)) b
        → (Has (with_answered a kept) b → length b.result ≤ MAX_RESULT_BYTES) → length b.result ≤ MAX_RESULT_BYTES
    on true g more = elim (Has-cases b a (k ∷ kept) g) [
      | inl same ↦ subst (λ (t : Answered). length t.result ≤ MAX_RESULT_BYTES) (sym same) one
      | inr old ↦ all b old
    ]
    on false g more = elim (Has-cases b k (with_answered a kept) g) [
      | inl same ↦ all b (Has-first b k kept same)
      | inr later ↦ more later
    ]

short_account : (w : ℕ) (o : Option Account) (a : Answered) → length a.result ≤ MAX_RESULT_BYTES
    → ((old : Account) → o ≡ Some old → AreShort old.kept) → AreShort (account_with w o a).kept
short_account w None a one all = short_with a [] one (λ b h. absurd (Has-none b h))
short_account w (Some old) a one all = λ b h.
    short_with a old.kept one (all old refl) b
    (Has-from_filter (λ (c : Answered). nat_lt (max old.greatest a.id) (c.id + w)) b (with_answered a old.kept) h).0

-- what is found among the entries is one of them
short_at : (es : List (ℕ × Account)) (q : ℕ) (a : Account) → EachIsShort es → finite.find nat_cmp q es ≡ Some a → AreShort a.kept
short_at [] q a all h = absurd cc
short_at (e ∷ es) q a all h =
    on (eq_by_cmp nat_cmp q e.0) h (short_at es q a (λ f g. all f (Has-rest f e es g)))
  where
    on : (b : Bool) → cond b (Some e.1) (finite.find nat_cmp q es) ≡ Some a → (finite.find nat_cmp q es ≡ Some a → AreShort a.kept)
        → AreShort a.kept
    on true g more = let same : e.1 ≡ a = cc in subst (λ (t : Account). AreShort t.kept) same (all e (Has-first e e es refl))
    on false g more = more g

short_put : (es : List (ℕ × Account)) (c : ℕ) (a : Account) → AreShort a.kept → EachIsShort es → EachIsShort (put nat_cmp c a es)
short_put [] c a one all f h = elim (Has-cases f (c, a) [] h) [
  | inl same ↦ subst (λ (t : ℕ × Account). AreShort t.1.kept) (sym same) one
  | inr none ↦ absurd (Has-none f none)
]
short_put (e ∷ es) c a one all f h =
    on (nat_cmp c e.0) h (short_put es c a one (λ g i. all g (Has-rest g e es i)) f)
  where
    on : (r : Ordering) → Has (by_order r ((c, a) ∷ e ∷ es) ((e.0, a) ∷ es) (e ∷ put nat_cmp c a es)) f
        → (Has (put nat_cmp c a es) f → AreShort f.1.kept) → AreShort f.1.kept
    on Less g more = elim (Has-cases f (c, a) (e ∷ es) g) [
      | inl same ↦ subst (λ (t : ℕ × Account). AreShort t.1.kept) (sym same) one
      | inr old ↦ all f old
    ]
    on Equal g more = elim (Has-cases f (e.0, a) es g) [
      | inl same ↦ subst (λ (t : ℕ × Account). AreShort t.1.kept) (sym same) one
      | inr old ↦ all f (Has-rest f e es old)
    ]
    on Greater g more = elim (Has-cases f e (put nat_cmp c a es) g) [
      | inl same ↦ all f (Has-first f e es same)
      | inr later ↦ more later
    ]

-- what is kept with an id is one of those kept
short_in : (kept : List Answered) (id : ℕ) (result : List ℕ) → AreShort kept → result_in kept id ≡ Some result
    → length result ≤ MAX_RESULT_BYTES
short_in [] id result all h = absurd cc
short_in (a ∷ kept) id result all h = on (eqb a.id id) h (short_in kept id result (λ b g. all b (Has-rest b a kept g)))
  where
    on : (b : Bool) → cond b (Some a.result) (result_in kept id) ≡ Some result
        → (result_in kept id ≡ Some result → length result ≤ MAX_RESULT_BYTES) → length result ≤ MAX_RESULT_BYTES
    on true g more =
        let same : a.result ≡ result = cc in
        subst (λ (bytes : List ℕ). length bytes ≤ MAX_RESULT_BYTES) same (all a (Has-first a a kept refl))
    on false g more = more g

-- ---- a host with short answers, in the states that ops lead to

module _ {S : Type 0} (m : Meaning S) (IsSound : S → Type 0) (opens : IsSound m.opening)
    (stays : (s : S) (op : List ℕ) → IsSound s → IsSound (m.after s op))
    (short_answer : (s : S) (op : List ℕ) → IsSound s → length (m.answer s op) ≤ MAX_RESULT_BYTES) where
  pub record IsWithin (x : Executed S) : Type 0 where
    pub host : IsSound x.host
    pub results : EachIsShort (finite.entries x.table)

  execute_within : (x : Executed S) (r : Request) → IsWithin x → IsWithin (execute m x r)
  execute_within x r h = record {
    host = stays x.host r.op h.host;
    results =
        let a : Answered = record { id = r.id; result = m.answer x.host r.op } in
        let new : Account = account_with WINDOW (kept_for x.table r.client) a in
        let all_short : AreShort new.kept =
        short_account WINDOW (kept_for x.table r.client) a (short_answer x.host r.op h.host)
        (λ old e. short_at (finite.entries x.table) r.client old h.results (sym (finite.get-entries x.table r.client) ∙ e)) in
        rw (finite.entries-insert nat_cmp_total x.table r.client new) (short_put (finite.entries x.table) r.client new all_short h.results);
  }

  all_within : (x : Executed S) (rs : List Request) → IsWithin x → IsWithin (execute_all m x rs)
  all_within x [] h = h
  all_within x (r ∷ rs) h = all_within (execute m x r) rs (execute_within x r h)

  opening_within : IsWithin (opening m)
  opening_within = record {
    host = opens;
    results = λ e h. absurd (none e h);
  }
    where
      none : (e : ℕ × Account) → Has (finite.entries (opening m).table) e → ⊥
      none e h =
          let near : h.0 < length (finite.entries (opening m).table) = slice_get_within (finite.entries (opening m).table) h.0 e h.1 in
          let n : finite.len (opening m).table ≡ length (finite.entries (opening m).table) = finite.len-entries (opening m).table in
          let zero_of : finite.len (opening m).table ≡ 0 = finite.len-empty nat_cmp Account in
          omega arith

  pub exec_within : (log : List Entry) → IsWithin (exec m log)
  exec_within log = rw (exec_is_of_history m log) (all_within (opening m) (history_of log) opening_within)

  -- a kept result is short
  pub kept_result_fits : (log : List Entry) (client id : ℕ) (result : List ℕ)
      → result_kept (kept_for (exec m log).table client) id ≡ Some result → length result ≤ MAX_RESULT_BYTES
  kept_result_fits log client id result h = on (kept_for (exec m log).table client) refl h
    where
      on : (o : Option Account) → kept_for (exec m log).table client ≡ o → result_kept o id ≡ Some result
          → length result ≤ MAX_RESULT_BYTES
      on None e g = absurd cc
      on (Some a) e g =
          short_in a.kept id result
          (short_at (finite.entries (exec m log).table) client a (exec_within log).results
          (sym (finite.get-entries (exec m log).table client) ∙ e)) g

  -- and so is each result of a slot
  pub result_fits : (log : List Entry) (slot : ℕ) (result : List ℕ) → result_at m log slot ≡ Some result → length result ≤ MAX_RESULT_BYTES
  result_fits log slot result h =
      let r = result_is_of_request m log slot result h in
      kept_result_fits (take slot log) r.0.client r.0.id result (sym (result_is_kept m log slot r.0 r.1) ∙ h)
