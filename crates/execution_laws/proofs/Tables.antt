-- What the client table has of a log, and that it tells which requests are executed.
use Rattle.std.proofs.Common.{◌≡◌, ℕ, zero, suc, ◌+◌, ◌<◌, ◌≤◌, Bool, true, false, cond, eqb, List, [], ◌∷◌, ◌++◌, length, take, min}
use Rattle.std.proofs.Common.{Option, Some, None, is_some}
use Rattle.std.proofs.Common.{refl, sym, ap, subst, ◌∙◌, append-nil, append_assoc, arith}
use Rattle.std.specs.Prelude.{◌&&◌, ◌||◌, nat_lt}
use Rattle.std.specs.FinMap as finite
use Rattle.std.specs.Ordering.{nat_cmp}
use Rattle.std.proofs.lemmas.Cmp.{nat_cmp_total}
use Rattle.std.proofs.Math.Bool.{or-true, or-false}
use Rattle.std.proofs.lemmas.Bool.{and_parts, and_from, or_right, eqb-true, ltb-true, lt-ltb}
use Rattle.std.proofs.lemmas.List.{length-take, length_push}
use Rattle.nop_types.specs.declared.limits.TheConstants.{MAX_SERVED, WINDOW}
use Rattle.nop_types.specs.declared.request.Request.{Request}
use Rattle.nop_types.specs.declared.request.Entry.{Entry}
use Rattle.nop_types.specs.declared.request.Entry.TheVariants.{NoOp, Req}
use Rattle.nop_types.specs.Meaning.{Meaning}
use Rattle.nop_types.specs.Lists.{is_in}
use Rattle.nop_types.specs.Windows.{is_new}
use Rattle.nop_types.specs.declared.checkpoint.Answered.{Answered}
use Rattle.nop_types.specs.Tables.{Account, Table, kept_for, is_new_to, account_with, kept_ids}
use Rattle.nop_types.specs.Execution.{Executed, opening, ids_of, with_client, clients_of, is_served, is_executed, execute, enter, exec_from}
use Rattle.nop_types.specs.Execution.{exec, takes, enter_kept, exec_kept}
use Rattle.execution_laws.specs.Execution.{IsAccountOf}
use Rattle.execution_laws.proofs.Ids.{ids_of-noop, ids_of-push_own, ids_of-push_other}
use Rattle.execution_laws.proofs.Windows.{is_new-first, has-is_in}
use Rattle.execution_laws.proofs.Clients.{with_client_has, with_client_other, clients_of-push, firsts-push}
use Rattle.execution_laws.proofs.Steps.{exec_of_append}
use Rattle.execution_laws.proofs.Accounts.{kept_for-insert, Holds, account_of, account_tells_new, first_holds, more_holds, old_holds}

-- ---- the first clients, and one more: only these are spoken of from here on

module _ (n : ℕ) (cs : List ℕ) (c : ℕ) where
  abbrev pub has_room : Bool
  has_room = nat_lt (length cs) n

  abbrev pub next : List ℕ
  next = cond has_room (with_client cs c) cs

  -- a client is one of them where it is so already, or there is room
  next_has : is_in next c ≡ (is_in cs c || has_room)
  next_has = on has_room
    where
      on : (b : Bool) → is_in (cond b (with_client cs c) cs) c ≡ (is_in cs c || b)
      on true = with_client_has cs c ∙ sym (or-true (is_in cs c))
      on false = sym (or-false (is_in cs c))

  next_other : (d : ℕ) → eqb c d ≡ false → is_in next d ≡ is_in cs d
  next_other d apart = on has_room
    where
      on : (b : Bool) → is_in (cond b (with_client cs c) cs) d ≡ is_in cs d
      on true = with_client_other cs c d apart
      on false = refl

  -- one that is there already changes nothing
  next_old : is_in cs c ≡ true → next ≡ cs
  next_old h = on has_room
    where
      on : (b : Bool) → cond b (with_client cs c) cs ≡ cs
      on true = ap (λ (t : Bool). cond t cs (cs ++ c ∷ [])) h
      on false = refl

  next_longer : is_in cs c ≡ false → is_in next c ≡ true → length next ≡ length cs + 1
  next_longer h g = on has_room (sym (next_has ∙ ap (λ (b : Bool). b || has_room) h) ∙ g)
    where
      on : (b : Bool) → b ≡ true → length (cond b (with_client cs c) cs) ≡ length cs + 1
      on true e = ap (λ (t : Bool). length (cond t cs (cs ++ c ∷ []))) h ∙ length_push cs c
      on false e = absurd cc

-- ---- what a table has of a log, by the ids of each client and the first clients

pub record Fits (w n : ℕ) (cs : List ℕ) (ids : ℕ → List ℕ) (table : Table) : Type 0 where
  pub served : (c : ℕ) → is_some (kept_for table c) ≡ is_in cs c
  pub count : finite.len table ≡ length cs
  pub accounts : (c : ℕ) (a : Account) → kept_for table c ≡ Some a → Holds w (ids c) a
  -- a client that has none yet, while there is room
  pub fresh : (c : ℕ) → is_in cs c ≡ false → length cs < n → ids c ≡ []

module _ (w n : ℕ) (low : 1 ≤ w) where
  -- what the table tells of a request
  abbrev pub tells : Table → ℕ → ℕ → Bool
  tells table c id = (is_some (kept_for table c) || nat_lt (finite.len table) n) && is_new_to w (kept_for table c) id

  abbrev pub test : List ℕ → (ℕ → List ℕ) → ℕ → ℕ → Bool
  test cs ids c id = is_in (next n cs c) c && is_new w (ids c) id

  module _ (cs : List ℕ) (ids : ℕ → List ℕ) (table : Table) (fits : Fits w n cs ids table) (c id : ℕ) where
    serves_next : (is_some (kept_for table c) || nat_lt (finite.len table) n) ≡ is_in (next n cs c) c
    serves_next =
        ap (λ (b : Bool). b || nat_lt (finite.len table) n) (fits.served c)
        ∙ (ap (λ (k : ℕ). is_in cs c || nat_lt k n) fits.count ∙ sym (next_has n cs c))

    -- a client that has no account, and may have one, has no id
    no_ids : kept_for table c ≡ None → is_in (next n cs c) c ≡ true → ids c ≡ []
    no_ids e s =
        let out : is_in cs c ≡ false = sym (fits.served c) ∙ ap is_some e in
        let room : nat_lt (length cs) n ≡ true = sym (next_has n cs c ∙ ap (λ (b : Bool). b || nat_lt (length cs) n) out) ∙ s in
        fits.fresh c out (ltb-true (length cs) n room)

    new_to : (o : Option Account) → kept_for table c ≡ o → is_in (next n cs c) c ≡ true → is_new_to w o id ≡ is_new w (ids c) id
    new_to (Some a) e s = account_tells_new w (ids c) a (fits.accounts c a e) id
    new_to None e s = sym (ap (λ (ns : List ℕ). is_new w ns id) (no_ids e s) ∙ is_new-first w id low)

    pub tells_test : tells table c id ≡ test cs ids c id
    tells_test = ap (λ (b : Bool). b && is_new_to w (kept_for table c) id) serves_next ∙ on (is_in (next n cs c) c) refl
      where
        on : (b : Bool) → is_in (next n cs c) c ≡ b → (b && is_new_to w (kept_for table c) id) ≡ (b && is_new w (ids c) id)
        on true e = new_to (kept_for table c) refl e
        on false e = refl

    -- the client's account, with the result of a request that is executed
    account_holds : (a : Answered) → a.id ≡ id → test cs ids c id ≡ true → Holds w (ids c ++ id ∷ []) (account_with w (kept_for table c) a)
    account_holds a same t = on (kept_for table c) refl (parts.0) (new_to (kept_for table c) refl parts.0 ∙ parts.1)
      where
        parts : (is_in (next n cs c) c ≡ true) × (is_new w (ids c) id ≡ true)
        parts = and_parts (is_in (next n cs c) c) (is_new w (ids c) id) t

        on : (o : Option Account) → kept_for table c ≡ o → is_in (next n cs c) c ≡ true → is_new_to w o id ≡ true
            → Holds w (ids c ++ id ∷ []) (account_with w o a)
        on (Some old) e s new =
            let h : Holds w (ids c ++ a.id ∷ []) (account_with w (Some old) a) =
            more_holds w (ids c) old a (fits.accounts c old e) (ap (is_new_to w (Some old)) same ∙ new) in
            subst (λ (k : ℕ). Holds w (ids c ++ k ∷ []) (account_with w (Some old) a)) same h
        on None e s new =
            let none : ids c ≡ [] = no_ids e s in
            let h : Holds w (a.id ∷ []) (account_with w None a) = first_holds w low a in
            rw none (subst (λ (k : ℕ). Holds w (k ∷ []) (account_with w None a)) same h)

    module _ (ids' : ℕ → List ℕ) (own : ids' c ≡ ids c ++ id ∷ []) (others : (d : ℕ) → eqb c d ≡ false → ids' d ≡ ids d) where
      had_room : length (next n cs c) < n → nat_lt (length cs) n ≡ true
      had_room l = on (nat_lt (length cs) n) refl l
        where
          on : (b : Bool) → nat_lt (length cs) n ≡ b → length (cond b (with_client cs c) cs) < n → nat_lt (length cs) n ≡ true
          on true e l = e
          on false e l = lt-ltb (length cs) n l

      still_fresh : (d : ℕ) → is_in (next n cs c) d ≡ false → length (next n cs c) < n → ids' d ≡ []
      still_fresh d h l = on (eqb c d) refl
        where
          on : (b : Bool) → eqb c d ≡ b → ids' d ≡ []
          on false e = others d e ∙ fits.fresh d (sym (next_other n cs c d e) ∙ h) (ltb-true (length cs) n (had_room l))
          on true e =
              absurd (let same : c ≡ d = eqb-true c d e in
              let here : is_in (next n cs c) c ≡ true = next_has n cs c ∙ or_right (is_in cs c) (nat_lt (length cs) n) (had_room l) in
              let there : is_in (next n cs c) c ≡ false = ap (is_in (next n cs c)) same ∙ h in
              cc)

      -- a request that is executed
      pub executed_fits : (new : Account) → Holds w (ids' c) new → is_in (next n cs c) c ≡ true
          → Fits w n (next n cs c) ids' (finite.insert table c new)
      executed_fits new holds is_next = record {
        served = λ d. ap is_some (kept_for-insert table c new d) ∙ served_now d (eqb c d) refl;
        count =
            finite.len-insert nat_cmp_total table c new
            ∙ (ap (λ (t : Bool). cond t (finite.len table) (finite.len table + 1)) (fits.served c) ∙ count_now (is_in cs c) refl);
        accounts = λ d b e. account_now d b (eqb c d) refl (sym (kept_for-insert table c new d) ∙ e);
        fresh = still_fresh;
      }
        where
          served_now : (d : ℕ) (b : Bool) → eqb c d ≡ b → is_some (cond b (Some new) (kept_for table d)) ≡ is_in (next n cs c) d
          served_now d true e = let here : c ≡ d = eqb-true c d e in sym (ap (is_in (next n cs c)) (sym here) ∙ is_next)
          served_now d false e = fits.served d ∙ sym (next_other n cs c d e)

          count_now : (b : Bool) → is_in cs c ≡ b → cond b (finite.len table) (finite.len table + 1) ≡ length (next n cs c)
          count_now true h = fits.count ∙ ap length (sym (next_old n cs c h))
          count_now false h = ap (λ (k : ℕ). k + 1) fits.count ∙ sym (next_longer n cs c h is_next)

          account_now : (d : ℕ) (b : Account) (t : Bool) → eqb c d ≡ t → cond t (Some new) (kept_for table d) ≡ Some b → Holds w (ids' d) b
          account_now d b false e g = rw (others d e) (fits.accounts d b g)
          account_now d b true e g =
              let here : c ≡ d = eqb-true c d e in let is : new ≡ b = cc in rw (← here, ← is) holds

      -- a request that is not
      pub unexecuted_fits : test cs ids c id ≡ false → Fits w n (next n cs c) ids' table
      unexecuted_fits t = record {
        served = λ d. fits.served d ∙ ap (λ (t : List ℕ). is_in t d) (sym same);
        count = fits.count ∙ ap length (sym same);
        accounts = λ d b e. account_now d b (eqb c d) refl e;
        fresh = still_fresh;
      }
        where
          same : next n cs c ≡ cs
          same = on (is_in cs c) refl
            where
              on : (b : Bool) → is_in cs c ≡ b → next n cs c ≡ cs
              on true h = next_old n cs c h
              on false h = full (nat_lt (length cs) n) refl
                where
                  full : (b : Bool) → nat_lt (length cs) n ≡ b → cond b (with_client cs c) cs ≡ cs
                  full false e = refl
                  full true e =
                      absurd (let here : is_in (next n cs c) c ≡ true = next_has n cs c ∙ or_right (is_in cs c) (nat_lt (length cs) n) e in
                      let new : is_new w (ids c) id ≡ true =
                      ap (λ (ns : List ℕ). is_new w ns id) (fits.fresh c h (ltb-true (length cs) n e)) ∙ is_new-first w id low in
                      let both : test cs ids c id ≡ true = and_from (is_in (next n cs c) c) (is_new w (ids c) id) here new in
                      cc)

          account_now : (d : ℕ) (b : Account) (t : Bool) → eqb c d ≡ t → kept_for table d ≡ Some b → Holds w (ids' d) b
          account_now d b false e g = rw (others d e) (fits.accounts d b g)
          account_now d b true e g =
              let here : c ≡ d = eqb-true c d e in
              let mine : kept_for table c ≡ Some b = ap (kept_for table) here ∙ g in
              let is_next : is_in (next n cs c) c ≡ true = ap (λ (t : List ℕ). is_in t c) same ∙ (sym (fits.served c) ∙ ap is_some mine) in
              let old : is_new w (ids c) id ≡ false = sym (ap (λ (b : Bool). b && is_new w (ids c) id) is_next) ∙ t in
              rw (← here, own) (old_holds w (ids c) b id (fits.accounts c b mine) old)

-- ---- what the table of an execution has of its log

abbrev firsts : List Entry → List ℕ
firsts log = take MAX_SERVED (clients_of log)

abbrev IsTableOf : List Entry → Table → Type 0
IsTableOf log table = Fits WINDOW MAX_SERVED (firsts log) (λ c. ids_of c log) table

pub window_is_open : 1 ≤ WINDOW
window_is_open = omega arith

firsts-push_request : (log : List Entry) (r : Request) → firsts (log ++ Req r ∷ []) ≡ next MAX_SERVED (firsts log) r.client
firsts-push_request log r =
    ap (take MAX_SERVED) (clients_of-push log (Req r)) ∙ firsts-push MAX_SERVED (clients_of log) r.client

executed_by_firsts : (log : List Entry) (r : Request)
    → is_executed log r ≡ test WINDOW MAX_SERVED window_is_open (firsts log) (λ c. ids_of c log) r.client r.id
executed_by_firsts log r =
    ap (λ (cs : List ℕ). is_in cs r.client && is_new WINDOW (ids_of r.client log) r.id) (firsts-push_request log r)

tells_executed : (log : List Entry) (table : Table) → IsTableOf log table → (r : Request) → takes table r ≡ is_executed log r
tells_executed log table h r =
    tells_test WINDOW MAX_SERVED window_is_open (firsts log) (λ c. ids_of c log) table h r.client r.id ∙ sym (executed_by_firsts log r)

take-nil : {A : Type 0} (n : ℕ) → take {A = A} n [] ≡ []
take-nil zero = refl
take-nil (suc n) = refl

table_at_first : IsTableOf [] finite.empty
table_at_first = record {
  served = λ c. ap is_some (finite.get-empty nat_cmp c) ∙ sym (ap (λ (cs : List ℕ). is_in cs c) (take-nil MAX_SERVED));
  count = finite.len-empty nat_cmp Account ∙ sym (ap (λ (cs : List ℕ). length cs) (take-nil MAX_SERVED));
  accounts = λ c a e. absurd (let none : kept_for finite.empty c ≡ None = finite.get-empty nat_cmp c in cc);
  fresh = λ c h l. refl;
}

module _ {S : Type 0} (m : Meaning S) where
  table_with_noop : (log : List Entry) (table : Table) → IsTableOf log table → IsTableOf (log ++ NoOp ∷ []) table
  table_with_noop log table h =
      let same : firsts (log ++ NoOp ∷ []) ≡ firsts log = ap (take MAX_SERVED) (clients_of-push log NoOp) in
      record {
        served = λ c. h.served c ∙ ap (λ (cs : List ℕ). is_in cs c) (sym same);
        count = h.count ∙ ap length (sym same);
        accounts = λ c a e. rw (ids_of-noop c log) (h.accounts c a e);
        fresh = λ c none l. ids_of-noop c log ∙ h.fresh c (sym (ap (λ (cs : List ℕ). is_in cs c) same) ∙ none) (rw same at l);
      }

  table_with_request : (log : List Entry) (x : Executed S) (r : Request) → IsTableOf log x.table
      → IsTableOf (log ++ Req r ∷ []) (enter m log x (Req r)).table
  table_with_request log x r h =
      rw (firsts-push_request log r)
      (on (test WINDOW MAX_SERVED window_is_open (firsts log) (λ c. ids_of c log) r.client r.id) refl)
    where
      on : (b : Bool) → test WINDOW MAX_SERVED window_is_open (firsts log) (λ c. ids_of c log) r.client r.id ≡ b
          → Fits WINDOW MAX_SERVED (next MAX_SERVED (firsts log) r.client) (λ c. ids_of c (log ++ Req r ∷ [])) (cond b (execute m x r) x).table
      on false t =
          unexecuted_fits WINDOW MAX_SERVED window_is_open (firsts log) (λ c. ids_of c log) x.table h r.client r.id
          (λ c. ids_of c (log ++ Req r ∷ [])) (ids_of-push_own log r) (λ d e. ids_of-push_other d log r e) t
      on true t =
          let a : Answered = record { id = r.id; result = m.answer x.host r.op } in
          let holds = account_holds WINDOW MAX_SERVED window_is_open (firsts log) (λ c. ids_of c log) x.table h r.client r.id a refl t in
          executed_fits WINDOW MAX_SERVED window_is_open (firsts log) (λ c. ids_of c log) x.table h r.client r.id
          (λ c. ids_of c (log ++ Req r ∷ [])) (ids_of-push_own log r) (λ d e. ids_of-push_other d log r e)
          (account_with WINDOW (kept_for x.table r.client) a) (rw (ids_of-push_own log r) holds)
          (and_parts (is_in (next MAX_SERVED (firsts log) r.client) r.client) (is_new WINDOW (ids_of r.client log) r.id) t).0

  table_with_entry : (log : List Entry) (x : Executed S) (e : Entry) → IsTableOf log x.table
      → IsTableOf (log ++ e ∷ []) (enter m log x e).table
  table_with_entry log x NoOp h = table_with_noop log x.table h
  table_with_entry log x (Req r) h = table_with_request log x r h

  table_from : (before : List Entry) (x : Executed S) (log : List Entry) → IsTableOf before x.table
      → IsTableOf (before ++ log) (exec_from m before x log).table
  table_from before x [] h = rw (append-nil before) h
  table_from before x (e ∷ log) h =
      rw append_assoc at (table_from (before ++ e ∷ []) (enter m before x e) log (table_with_entry before x e h))

  table_of : (log : List Entry) → IsTableOf log (exec m log).table
  table_of log = table_from [] (opening m) log table_at_first

  -- the table tells whether a request is executed
  pub table_tells_executed : (log : List Entry) (r : Request) → takes (exec m log).table r ≡ is_executed log r
  table_tells_executed log r = tells_executed log (exec m log).table (table_of log) r

  -- it has the first clients of the log, as many as are served
  pub table_serves_the_first : (log : List Entry) (c : ℕ) → is_some (kept_for (exec m log).table c) ≡ is_served (clients_of log) c
  table_serves_the_first log c = (table_of log).served c

  pub table_is_as_long : (log : List Entry) → finite.len (exec m log).table ≡ min MAX_SERVED (length (clients_of log))
  table_is_as_long log = (table_of log).count ∙ length-take MAX_SERVED (clients_of log)

  -- and an account of each of them
  pub accounts_are_of_log : (log : List Entry) (c : ℕ) (a : Account) → kept_for (exec m log).table c ≡ Some a
      → IsAccountOf WINDOW (ids_of c log) a
  accounts_are_of_log log c a e = account_of WINDOW (ids_of c log) a ((table_of log).accounts c a e)

  pub kept_at_most : (log : List Entry) (c : ℕ) (a : Account) (id : ℕ) → kept_for (exec m log).table c ≡ Some a
      → is_in (kept_ids a.kept) id ≡ true → id ≤ a.greatest
  kept_at_most log c a id e h =
      let is = accounts_are_of_log log c a e in
      is.greatest.most id
      (has-is_in (ids_of c log) id (and_parts (is_in (ids_of c log) id) (nat_lt a.greatest (id + WINDOW)) (sym (is.kept id) ∙ h)).0)

  -- ---- execution by the table

  enter_by_kept : (log : List Entry) (x : Executed S) (e : Entry) → IsTableOf log x.table → enter m log x e ≡ enter_kept m x e
  enter_by_kept log x NoOp h = refl
  enter_by_kept log x (Req r) h = ap (λ (b : Bool). cond b (execute m x r) x) (sym (tells_executed log x.table h r))

  exec_by_kept_from : (before : List Entry) (x : Executed S) (log : List Entry) → IsTableOf before x.table
      → exec_from m before x log ≡ exec_kept m x log
  exec_by_kept_from before x [] h = refl
  exec_by_kept_from before x (e ∷ log) h =
      exec_by_kept_from (before ++ e ∷ []) (enter m before x e) log (table_with_entry before x e h)
      ∙ ap (λ (y : Executed S). exec_kept m y log) (enter_by_kept before x e h)

  -- the execution of a log needs the table alone
  pub exec_is_by_kept : (log : List Entry) → exec m log ≡ exec_kept m (opening m) log
  exec_is_by_kept log = exec_by_kept_from [] (opening m) log table_at_first

  pub exec_goes_on : (xs ys : List Entry) → exec m (xs ++ ys) ≡ exec_kept m (exec m xs) ys
  exec_goes_on xs ys = exec_of_append m xs ys ∙ exec_by_kept_from xs (exec m xs) ys (table_of xs)

  pub next_entry_by_kept : (log : List Entry) (e : Entry) → exec m (log ++ e ∷ []) ≡ enter_kept m (exec m log) e
  next_entry_by_kept log e = exec_goes_on log (e ∷ [])
