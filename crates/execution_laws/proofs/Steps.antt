-- The steps of an execution: of a longer log, of one more entry, of each member of the history.
use Rattle.std.proofs.Common.{◌≡◌, ℕ, zero, suc, ◌+◌, ◌≤◌, Bool, true, false, cond, eqb, List, [], ◌∷◌, ◌++◌, length, take, drop, Option}
use Rattle.std.proofs.Common.{Some, None}
use Rattle.std.proofs.Common.{refl, sym, ap, ◌∙◌, append_assoc, add-one, inl, inr}
use Rattle.std.specs.Prelude.{◌⊎◌, slice_get}
use Rattle.std.specs.FinMap as finite
use Rattle.std.specs.Ordering.{nat_cmp}
use Rattle.std.proofs.lemmas.Bool.{eqb-true}
use Rattle.std.proofs.lemmas.List.{append-nil, drop_all}
use Rattle.nop_types.specs.declared.limits.TheConstants.{WINDOW}
use Rattle.nop_types.specs.declared.request.Request.{Request}
use Rattle.nop_types.specs.declared.request.Entry.{Entry}
use Rattle.nop_types.specs.declared.request.Entry.TheVariants.{NoOp, Req}
use Rattle.nop_types.specs.Meaning.{Meaning}
use Rattle.nop_types.specs.Lists.{Has}
use Rattle.nop_types.specs.declared.checkpoint.Answered.{Answered}
use Rattle.nop_types.specs.Tables.{Account, kept_for, result_kept, account_with}
use Rattle.nop_types.specs.Execution.{Executed, opening, is_executed, execute, enter, exec_from, exec, enter_kept, exec_kept}
use Rattle.nop_types.specs.Histories.{new_in, history_from, history_of, answer_from, answer_at}
use Rattle.nop_types.specs.Legality.{IsOf, IsAnswered}
use Rattle.lemmas.proofs.Places.{Splits-at}
use Rattle.execution_laws.specs.Execution.{execute_all}
use Rattle.execution_laws.proofs.Ids.{repeat_is_old, far_is_old}
use Rattle.execution_laws.proofs.Accounts.{kept_for-insert, kept_is_new_or_old}

module _ {S : Type 0} (m : Meaning S) where
  pub exec_from-append : (b : List Entry) (x : Executed S) (xs ys : List Entry)
      → exec_from m b x (xs ++ ys) ≡ exec_from m (b ++ xs) (exec_from m b x xs) ys
  exec_from-append b x [] ys = let e : b ++ [] ≡ b = append-nil b in rw e refl
  exec_from-append b x (e ∷ xs) ys =
      let a : (b ++ e ∷ []) ++ xs ≡ b ++ e ∷ xs = append_assoc b (e ∷ []) xs in
      rw a at (exec_from-append (b ++ e ∷ []) (enter m b x e) xs ys)

  -- a longer log is executed on from where the shorter one ends
  pub exec_of_append : (xs ys : List Entry) → exec m (xs ++ ys) ≡ exec_from m xs (exec m xs) ys
  exec_of_append xs ys = exec_from-append [] (opening m) xs ys

  pub exec_of_next_entry : (log : List Entry) (e : Entry) → exec m (log ++ e ∷ []) ≡ enter m log (exec m log) e
  exec_of_next_entry log e = exec_of_append log (e ∷ [])

  -- a request is not executed where its client has the same id before it, or one that is a window ahead
  unexecuted : (log : List Entry) (r : Request) → is_executed log r ≡ false → exec m (log ++ Req r ∷ []) ≡ exec m log
  unexecuted log r old = exec_of_next_entry log (Req r) ∙ ap (λ (b : Bool). cond b (execute m (exec m log) r) (exec m log)) old

  pub repeat_is_not_executed : (log : List Entry) (q r : Request) → Has log (Req q) → q.client ≡ r.client → q.id ≡ r.id
      → exec m (log ++ Req r ∷ []) ≡ exec m log
  repeat_is_not_executed log q r h own same = unexecuted log r (repeat_is_old log q r h own same)

  pub stale_is_not_executed : (log : List Entry) (q r : Request) → Has log (Req q) → q.client ≡ r.client → r.id + WINDOW ≤ q.id
      → exec m (log ++ Req r ∷ []) ≡ exec m log
  stale_is_not_executed log q r h own far = unexecuted log r (far_is_old log q r h own far)

  pub exec_kept_of_append : (x : Executed S) (xs ys : List Entry) → exec_kept m x (xs ++ ys) ≡ exec_kept m (exec_kept m x xs) ys
  exec_kept_of_append x [] ys = refl
  exec_kept_of_append x (e ∷ xs) ys = exec_kept_of_append (enter_kept m x e) xs ys

  pub exec_kept_of_end : (x : Executed S) (log : List Entry) (i : ℕ) → length log ≤ i → exec_kept m x (drop i log) ≡ x
  exec_kept_of_end x log i l = rw (drop_all i log l) refl

  -- from a place on: the entry there, and then the rest of the log
  pub exec_kept_of_rest : (x : Executed S) (log : List Entry) (i : ℕ) (e : Entry) → slice_get log i ≡ Some e
      → exec_kept m x (drop i log) ≡ exec_kept m (enter_kept m x e) (drop (i + 1) log)
  exec_kept_of_rest x log i e h = let s : drop i log ≡ e ∷ drop (suc i) log = (Splits-at log i e h).back in rw (add-one, s) refl

  execute_all-append : (x : Executed S) (rs qs : List Request) → execute_all m x (rs ++ qs) ≡ execute_all m (execute_all m x rs) qs
  execute_all-append x [] qs = refl
  execute_all-append x (r ∷ rs) qs = execute_all-append (execute m x r) rs qs

  enter_is_of_new : (b : List Entry) (x : Executed S) (e : Entry) → enter m b x e ≡ execute_all m x (new_in b e)
  enter_is_of_new b x NoOp = refl
  enter_is_of_new b x (Req r) = here (is_executed b r)
    where
      here : (t : Bool) → cond t (execute m x r) x ≡ execute_all m x (cond t (r ∷ []) [])
      here true = refl
      here false = refl

  exec_is_of_rest : (b : List Entry) (x : Executed S) (log : List Entry) → exec_from m b x log ≡ execute_all m x (history_from b log)
  exec_is_of_rest b x [] = refl
  exec_is_of_rest b x (e ∷ log) =
      exec_is_of_rest (b ++ e ∷ []) (enter m b x e) log
      ∙ (rw (enter_is_of_new b x e) refl ∙ sym (execute_all-append x (new_in b e) (history_from (b ++ e ∷ []) log)))

  -- the execution of a log is that of its history's members
  pub exec_is_of_history : (log : List Entry) → exec m log ≡ execute_all m (opening m) (history_of log)
  exec_is_of_history log = exec_is_of_rest [] (opening m) log

  -- the answer at a place is that of the execution of the members before it
  answer_is_after_prefix : (x : Executed S) (rs : List Request) (i : ℕ) (r : Request) → slice_get rs i ≡ Some r
      → answer_from m x.host rs i ≡ Some (m.answer (execute_all m x (take i rs)).host r.op)
  answer_is_after_prefix x [] i r h = absurd cc
  answer_is_after_prefix x (q ∷ rs) zero r h = let same : q ≡ r = cc in rw same refl
  answer_is_after_prefix x (q ∷ rs) (suc i) r h = answer_is_after_prefix (execute m x q) rs i r h

  pub answer_of_member : (rs : List Request) (i : ℕ) (r : Request) → slice_get rs i ≡ Some r
      → answer_at m rs i ≡ Some (m.answer (execute_all m (opening m) (take i rs)).host r.op)
  answer_of_member rs i r h = answer_is_after_prefix (opening m) rs i r h

  -- a result that is kept answers one of the requests
  record IsAnswer (s : S) (rs : List Request) (client id : ℕ) (result : List ℕ) : Type 0 where
    place : ℕ
    request : Request
    member : slice_get rs place ≡ Some request
    same : IsOf client id request
    answer : answer_from m s rs place ≡ Some result

  abbrev answered : Executed S → Request → Answered
  answered x r = record { id = r.id; result = m.answer x.host r.op }

  abbrev account_then : Executed S → Request → Account
  account_then x r = account_with WINDOW (kept_for x.table r.client) (answered x r)

  kept_is_old_or_answer : (x : Executed S) (rs : List Request) (c id : ℕ) (result : List ℕ)
      → result_kept (kept_for (execute_all m x rs).table c) id ≡ Some result
      → (result_kept (kept_for x.table c) id ≡ Some result) ⊎ IsAnswer x.host rs c id result
  kept_is_old_or_answer x [] c id result h = inl h
  kept_is_old_or_answer x (r ∷ rs) c id result h = elim (kept_is_old_or_answer (execute m x r) rs c id result h) [
    | inl e ↦
        here (eqb r.client c) refl
        (sym (ap (λ (o : Option Account). result_kept o id) (kept_for-insert x.table r.client (account_then x r) c)) ∙ e)
    | inr a ↦ inr (record { place = suc a.place; request = a.request; member = a.member; same = a.same; answer = a.answer })
  ]
    where
      here : (t : Bool) → eqb r.client c ≡ t → result_kept (cond t (Some (account_then x r)) (kept_for x.table c)) id ≡ Some result
          → (result_kept (kept_for x.table c) id ≡ Some result) ⊎ IsAnswer x.host (r ∷ rs) c id result
      here false e g = inl g
      here true e g =
          let same : r.client ≡ c = eqb-true r.client c e in
          elim (kept_is_new_or_old WINDOW (kept_for x.table r.client) (answered x r) id result g) [
            | inl is ↦ inr (record {
              place = 0;
              request = r;
              member = refl;
              same = record { same_client = same; same_id = is.same_id };
              answer = ap (λ (t : List ℕ). Some t) is.same_result;
            })
            | inr old ↦ inl (ap (λ (d : ℕ). result_kept (kept_for x.table d) id) (sym same) ∙ old)
          ]

  -- a kept result is the answer to a member of the history
  pub kept_is_answered : (log : List Entry) (c id : ℕ) (result : List ℕ)
      → result_kept (kept_for (exec m log).table c) id ≡ Some result → IsAnswered m (history_of log) c id result
  kept_is_answered log c id result h =
      elim (kept_is_old_or_answer (opening m) (history_of log) c id result (rw (exec_is_of_history log) at h)) [
        | inl e ↦ absurd (let none : kept_for (opening m).table c ≡ None = finite.get-empty nat_cmp c in
            let f : result_kept None id ≡ Some result = rw none at e in cc)
        | inr a ↦ record { place = a.place; request = a.request; member = a.member; same = a.same; answer = a.answer }
      ]
