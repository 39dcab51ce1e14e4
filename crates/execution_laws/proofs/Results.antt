-- The result at a slot.
use Rattle.std.proofs.Common.{◌≡◌, ℕ, zero, suc, ◌+◌, ◌≤◌, Bool, true, false, not, cond, eqb, List, [], ◌∷◌, ◌++◌, length, take, drop, Option}
use Rattle.std.proofs.Common.{Some}
use Rattle.std.proofs.Common.{None, is_some, refl, sym, ap, subst, ◌∙◌, add-one, arith}
use Rattle.std.specs.Prelude.{◌&&◌, nat_lt, nat_le, slice_get}
use Rattle.std.proofs.lemmas.Bool.{and_parts, and_right, or_right, eq-eqb}
use Rattle.std.proofs.lemmas.Bool.Decides.{nat_tests}
use Rattle.std.proofs.lemmas.List.{take-append-drop, take-append-le, take_all}
use Rattle.nop_types.specs.declared.limits.TheConstants.{WINDOW}
use Rattle.nop_types.specs.declared.request.Request.{Request}
use Rattle.nop_types.specs.declared.request.Entry.{Entry}
use Rattle.nop_types.specs.declared.request.Entry.TheVariants.{NoOp, Req}
use Rattle.nop_types.specs.Meaning.{Meaning}
use Rattle.nop_types.specs.Lists.{Has, IsPrefixOf, slot_of, is_in}
use Rattle.nop_types.specs.Windows.{is_stale}
use Rattle.nop_types.specs.declared.checkpoint.Answered.{Answered}
use Rattle.nop_types.specs.Tables.{Account, kept_for, result_kept, is_new_to, serves, account_with}
use Rattle.nop_types.specs.Execution.{Executed, opening, ids_of, clients_of, is_served, execute, exec, takes, enter_kept, result_at}
use Rattle.nop_types.specs.Histories.{history_of}
use Rattle.nop_types.specs.Legality.{IsOf, IsAnswered}
use Rattle.lemmas.proofs.Places.{slice_get-append_within, Splits-at}
use Rattle.lemmas.proofs.Prefixes.{IsPrefixOf-take}
use Rattle.lemmas.proofs.Slots.{slot_of-push}
use Rattle.execution_laws.specs.Execution.{execute_all, IsAccountOf}
use Rattle.execution_laws.specs.Histories.{IsExecutedAt}
use Rattle.execution_laws.proofs.Ids.{IsOf-refl, ids_of-append, ids_of-push_own, has_id}
use Rattle.execution_laws.proofs.Windows.{is_in-push, greatest_is, stale_with_itself, far_is_stale, not_stale_before}
use Rattle.execution_laws.proofs.Accounts.{kept_for-insert, has_result, new_result_is_kept}
use Rattle.execution_laws.proofs.Members.{member_stands, history_of_prefix, answered_as, answer_stays, answers_are_equal}
use Rattle.execution_laws.proofs.Steps.{exec_of_next_entry, exec_is_of_history, answer_of_member, kept_is_answered}
use Rattle.execution_laws.proofs.Tables.{window_is_open, next_entry_by_kept, table_serves_the_first, accounts_are_of_log}

not_stale_here : (served stale : Bool) → stale ≡ false → (served && not stale) ≡ served
not_stale_here true stale e = ap not e
not_stale_here false stale e = refl

no_result : (o : Option (List ℕ)) → is_some o ≡ false → o ≡ None
no_result None e = refl
no_result (Some x) e = absurd cc

-- an account keeps a result with the last of its ids where that is not stale
account_has_last : (w : ℕ) (ids : List ℕ) (id : ℕ) (a : Account) → 1 ≤ w → IsAccountOf w (ids ++ id ∷ []) a
    → is_some (result_kept (Some a) id) ≡ not (is_stale w ids id)
account_has_last w ids id a low is =
    has_result a.kept id
    ∙ (is.kept id
    ∙ (ap (λ (b : Bool). b && nat_lt a.greatest (id + w)) last
    ∙ (other a.greatest
    ∙ (ap (λ (g : ℕ). not (nat_le (id + w) g)) (sym (greatest_is (ids ++ id ∷ []) a.greatest is.greatest))
    ∙ ap not (stale_with_itself w ids id low)))))
  where
    last : is_in (ids ++ id ∷ []) id ≡ true
    last = is_in-push ids id id ∙ or_right (is_in ids id) (eqb id id) (eq-eqb id id refl)

    other : (g : ℕ) → nat_lt g (id + w) ≡ not (nat_le (id + w) g)
    other g = grind (arith, nat_tests)

module _ {S : Type 0} (m : Meaning S) where
  -- the execution of one slot more
  pub exec_of_next_slot : (log : List Entry) (i : ℕ) (e : Entry) → slice_get log i ≡ Some e
      → exec m (take (i + 1) log) ≡ enter_kept m (exec m (take i log)) e
  exec_of_next_slot log i e h =
      let s : take (suc i) log ≡ take i log ++ e ∷ [] = (Splits-at log i e h).prefix in rw (add-one, s) (next_entry_by_kept m (take i log) e)

  -- whether a result is kept for the request that comes last
  kept_where_served : (log : List Entry) (r : Request)
      → is_some (result_kept (kept_for (exec m (log ++ Req r ∷ [])).table r.client) r.id)
      ≡ (is_served (clients_of (log ++ Req r ∷ [])) r.client && not (is_stale WINDOW (ids_of r.client log) r.id))
  kept_where_served log r =
      on (kept_for (exec m (log ++ Req r ∷ [])).table r.client) refl
      ∙ ap (λ (b : Bool). b && not (is_stale WINDOW (ids_of r.client log) r.id)) (table_serves_the_first m (log ++ Req r ∷ []) r.client)
    where
      on : (o : Option Account) → kept_for (exec m (log ++ Req r ∷ [])).table r.client ≡ o
          → is_some (result_kept o r.id) ≡ (is_some o && not (is_stale WINDOW (ids_of r.client log) r.id))
      on None e = refl
      on (Some a) e =
          account_has_last WINDOW (ids_of r.client log) r.id a window_is_open
          (subst (λ (ids : List ℕ). IsAccountOf WINDOW ids a) (ids_of-push_own log r)
          (accounts_are_of_log m (log ++ Req r ∷ []) r.client a e))

  -- the result at a slot is what is kept with the id after it
  pub result_is_kept : (log : List Entry) (s : ℕ) (r : Request) → slot_of log s ≡ Some (Req r)
      → result_at m log s ≡ result_kept (kept_for (exec m (take s log)).table r.client) r.id
  result_is_kept log zero r h = absurd cc
  result_is_kept log (suc i) r h =
      let upto : take (suc i) log ≡ take i log ++ Req r ∷ [] = (Splits-at log i (Req r) h).prefix in
      rw (h, upto)
      (none_else (result_kept (kept_for (exec m (take i log ++ Req r ∷ [])).table r.client) r.id)
      (is_served (clients_of (take i log ++ Req r ∷ [])) r.client && not (is_stale WINDOW (ids_of r.client (take i log)) r.id))
      (kept_where_served (take i log) r))
    where
      none_else : (o : Option (List ℕ)) (b : Bool) → is_some o ≡ b → cond b o None ≡ o
      none_else None true e = refl
      none_else None false e = refl
      none_else (Some x) true e = refl
      none_else (Some x) false e = absurd cc

  -- a request has a result where its client is served, and its id is not stale
  pub has_result_where_served : (log : List Entry) (s : ℕ) (r : Request) → slot_of log s ≡ Some (Req r)
      → is_some (result_at m log s)
      ≡ (is_served (clients_of (take s log)) r.client && not (is_stale WINDOW (ids_of r.client (take s log)) r.id))
  has_result_where_served log zero r h = absurd cc
  has_result_where_served log (suc i) r h =
      let upto : take (suc i) log ≡ take i log ++ Req r ∷ [] = (Splits-at log i (Req r) h).prefix in
      ap is_some (result_is_kept log (suc i) r h)
      ∙ rw upto
      (kept_where_served (take i log) r
      ∙ ap (λ (b : Bool). is_served (clients_of (take i log ++ Req r ∷ [])) r.client && not b)
      (sym (ap (λ (ids : List ℕ). is_stale WINDOW ids r.id) (ids_of-push_own (take i log) r)
      ∙ stale_with_itself WINDOW (ids_of r.client (take i log)) r.id window_is_open)))

  -- so it is where the id is not stale in the end
  pub has_result_unless_stale : (log : List Entry) (s : ℕ) (r : Request) → slot_of log s ≡ Some (Req r)
      → is_stale WINDOW (ids_of r.client log) r.id ≡ false → is_some (result_at m log s) ≡ is_served (clients_of (take s log)) r.client
  has_result_unless_stale log s r h fresh =
      let parts : ids_of r.client log ≡ ids_of r.client (take s log) ++ ids_of r.client (drop s log) =
      ap (λ (l : List Entry). ids_of r.client l) (sym (take-append-drop s log)) ∙ ids_of-append r.client (take s log) (drop s log) in
      has_result_where_served log s r h
      ∙ not_stale_here (is_served (clients_of (take s log)) r.client) (is_stale WINDOW (ids_of r.client (take s log)) r.id)
      (not_stale_before WINDOW (ids_of r.client (take s log)) (ids_of r.client (drop s log)) r.id
      (subst (λ (ids : List ℕ). is_stale WINDOW ids r.id ≡ false) parts fresh))

  -- it has none where one of its client a window ahead is before it
  pub stale_has_no_result : (log : List Entry) (s : ℕ) (q r : Request) → slot_of log s ≡ Some (Req r) → Has (take s log) (Req q)
      → q.client ≡ r.client → r.id + WINDOW ≤ q.id → result_at m log s ≡ None
  stale_has_no_result log s q r h has own far =
      let stale : is_stale WINDOW (ids_of r.client (take s log)) r.id ≡ true =
      far_is_stale WINDOW (ids_of r.client (take s log)) r.id q.id (has_id (take s log) q r.client own has) far in
      no_result (result_at m log s)
      (has_result_where_served log s r h
      ∙ and_right (is_served (clients_of (take s log)) r.client) (not (is_stale WINDOW (ids_of r.client (take s log)) r.id)) (ap not stale))

  -- the answer to a request that is executed is kept
  pub executed_is_kept : (x : Executed S) (r : Request) → takes x.table r ≡ true
      → result_kept (kept_for (execute m x r).table r.client) r.id ≡ Some (m.answer x.host r.op)
  executed_is_kept x r t =
      let a : Answered = record { id = r.id; result = m.answer x.host r.op } in
      ap (λ (o : Option Account). result_kept o r.id)
      (kept_for-insert x.table r.client (account_with WINDOW (kept_for x.table r.client) a) r.client
      ∙ ap (λ (b : Bool). cond b (Some (account_with WINDOW (kept_for x.table r.client) a)) (kept_for x.table r.client))
      (eq-eqb r.client r.client refl))
      ∙ new_result_is_kept WINDOW window_is_open (kept_for x.table r.client) a
      (and_parts (serves x.table r.client) (is_new_to WINDOW (kept_for x.table r.client) r.id) t).1

  -- at the last slot, what is kept in the end
  pub last_result_is_kept : (log : List Entry) (r : Request) → slot_of log (length log) ≡ Some (Req r)
      → result_at m log (length log) ≡ result_kept (kept_for (exec m log).table r.client) r.id
  last_result_is_kept log r h =
      let whole : take (length log) log ≡ log = take_all (length log) log (omega arith) in
      result_is_kept log (length log) r h ∙ ap (λ (t : List Entry). result_kept (kept_for (exec m t).table r.client) r.id) whole

  pub next_result_is_kept : (log : List Entry) (r : Request)
      → result_at m (log ++ Req r ∷ []) (length (log ++ Req r ∷ [])) ≡ result_kept (kept_for (enter_kept m (exec m log) (Req r)).table r.client) r.id
  next_result_is_kept log r =
      last_result_is_kept (log ++ Req r ∷ []) r (slot_of-push log (Req r))
      ∙ ap (λ (x : Executed S). result_kept (kept_for x.table r.client) r.id) (next_entry_by_kept m log (Req r))

  -- only a request has a result
  pub result_is_of_request : (log : List Entry) (s : ℕ) (result : List ℕ) → result_at m log s ≡ Some result
      → (r : Request) × (slot_of log s ≡ Some (Req r))
  result_is_of_request log zero result h = absurd cc
  result_is_of_request log (suc i) result h = here (slice_get log i) refl
    where
      here : (o : Option Entry) → slice_get log i ≡ o → (r : Request) × (slot_of log (suc i) ≡ Some (Req r))
      here None e = absurd (let f = rw e at h in cc)
      here (Some NoOp) e = absurd (let f = rw e at h in cc)
      here (Some (Req r)) e = (r, e)

  -- the result at a slot is an answer in the history up to it
  pub result_is_answered : (log : List Entry) (s : ℕ) (r : Request) (result : List ℕ) → slot_of log s ≡ Some (Req r)
      → result_at m log s ≡ Some result → IsAnswered m (history_of (take s log)) r.client r.id result
  result_is_answered log s r result h g =
      kept_is_answered m (take s log) r.client r.id result (sym (result_is_kept log s r h) ∙ g)

  answered_in_whole : (log : List Entry) (s : ℕ) (r : Request) (client id : ℕ) (result : List ℕ) → slot_of log s ≡ Some (Req r)
      → IsOf client id r
      → result_at m log s ≡ Some result → IsAnswered m (history_of log) client id result
  answered_in_whole log s r client id result h same g =
      answer_stays m (history_of (take s log)) (history_of log) client id result
      (history_of_prefix (take s log) log (IsPrefixOf-take s log))
      (answered_as m (history_of (take s log)) client id r result same (result_is_answered log s r result h g))

  -- a request has one result, at each slot where it stands
  pub results_are_equal : (log : List Entry) (s t : ℕ) (p q : Request) (a b : List ℕ) → slot_of log s ≡ Some (Req p)
      → slot_of log t ≡ Some (Req q) → IsOf p.client p.id q → result_at m log s ≡ Some a → result_at m log t ≡ Some b → a ≡ b
  results_are_equal log s t p q a b g h same e f =
      answers_are_equal m log p.client p.id a b (answered_in_whole log s p p.client p.id a g (IsOf-refl p) e)
      (answered_in_whole log t q p.client p.id b h same f)

  -- the result at a slot is known from the entries up to it
  pub result_needs_prefix : (xs ys : List Entry) (s : ℕ) → IsPrefixOf xs ys → s ≤ length xs → result_at m ys s ≡ result_at m xs s
  result_needs_prefix xs ys zero p l = refl
  result_needs_prefix xs ys (suc i) p l =
      let a : take i (xs ++ p.0) ≡ take i xs = take-append-le i xs p.0 (omega (arith, l)) in
      let b : take (suc i) (xs ++ p.0) ≡ take (suc i) xs = take-append-le (suc i) xs p.0 l in
      let c : slice_get (xs ++ p.0) i ≡ slice_get xs i = slice_get-append_within xs p.0 i (omega (arith, l)) in
      rw (p.1, a, b, c) refl

  -- each member of the history is executed
  pub member_is_executed : (log : List Entry) (i : ℕ) (r : Request) → slice_get (history_of log) i ≡ Some r → IsExecutedAt m log i r
  member_is_executed log i r h =
      let s = member_stands [] log i r h in
      let x = exec m s.before in
      let same : x ≡ execute_all m (opening m) (take i (history_of log)) = exec_is_of_history m s.before ∙ rw (s.history_is) refl in
      record {
        before = s.before;
        rest = s.rest;
        log_is = s.log_is;
        history_is = s.history_is;
        executed =
            exec_of_next_entry m s.before (Req r)
            ∙ ap (λ (b : Bool). cond b (execute m (exec m s.before) r) (exec m s.before)) s.executed;
        answer = answer_of_member m (history_of log) i r h ∙ ap (λ (y : Executed S). Some (m.answer y.host r.op)) (sym same);
      }
