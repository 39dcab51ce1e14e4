-- The ids of a client in a log.
use Rattle.std.proofs.Common.{◌≡◌, ℕ, zero, suc, ◌+◌, ◌≤◌, Bool, true, false, cond, eqb, List, [], ◌∷◌, ◌++◌, append-nil, refl, sym, ap, arith}
use Rattle.std.proofs.Common.{subst, ◌∙◌, ◌<◌, inl, inr}
use Rattle.std.proofs.lemmas.Grind.{flat_map-append}
use Rattle.std.proofs.lemmas.Bool.{and_right, eq-eqb, eqb-true}
use Rattle.nop_types.specs.declared.limits.TheConstants.{WINDOW}
use Rattle.nop_types.specs.declared.request.Request.{Request}
use Rattle.nop_types.specs.declared.request.Entry.{Entry}
use Rattle.nop_types.specs.declared.request.Entry.TheVariants.{NoOp, Req}
use Rattle.nop_types.specs.Lists.{Has}
use Rattle.nop_types.specs.Windows.{is_new, is_stale}
use Rattle.nop_types.specs.Execution.{id_in, ids_of, clients_of, is_served, is_executed}
use Rattle.nop_types.specs.Legality.{IsOf}
use Rattle.lemmas.proofs.Members.{Has-none, Has-one, Has-first, Has-rest, Has-append_left, Has-append_right, Has-append_cases}
use Rattle.execution_laws.proofs.Windows.{repeated_is_old, stale_is_old, near_is_not_stale}

pub IsOf-refl : (r : Request) → IsOf r.client r.id r
IsOf-refl r = record { same_client = refl; same_id = refl }

pub IsOf-trans : (client id : ℕ) (p q : Request) → IsOf client id p → IsOf p.client p.id q → IsOf client id q
IsOf-trans client id p q a b = record { same_client = b.same_client ∙ a.same_client; same_id = b.same_id ∙ a.same_id }

-- two requests of one client and id
pub IsOf-both : (client id : ℕ) (p q : Request) → IsOf client id p → IsOf client id q → IsOf p.client p.id q
IsOf-both client id p q a b = record { same_client = b.same_client ∙ sym a.same_client; same_id = b.same_id ∙ sym a.same_id }

pub ids_of-append : (c : ℕ) (xs ys : List Entry) → ids_of c (xs ++ ys) ≡ ids_of c xs ++ ids_of c ys
ids_of-append c xs ys = flat_map-append (id_in c) xs ys

-- after one more entry
pub ids_of-noop : (c : ℕ) (log : List Entry) → ids_of c (log ++ NoOp ∷ []) ≡ ids_of c log
ids_of-noop c log = ids_of-append c log (NoOp ∷ []) ∙ append-nil (ids_of c log)

pub ids_of-push : (c : ℕ) (log : List Entry) (r : Request) (b : Bool) → eqb r.client c ≡ b
    → ids_of c (log ++ Req r ∷ []) ≡ ids_of c log ++ cond b (r.id ∷ []) []
ids_of-push c log r b e =
    ids_of-append c log (Req r ∷ [])
    ∙ ap (λ (t : List ℕ). ids_of c log ++ t)
    (append-nil (cond (eqb r.client c) (r.id ∷ []) []) ∙ ap (λ (t : Bool). cond t (r.id ∷ []) []) e)

-- of the request's own client
pub ids_of-push_own : (log : List Entry) (r : Request) → ids_of r.client (log ++ Req r ∷ []) ≡ ids_of r.client log ++ r.id ∷ []
ids_of-push_own log r = ids_of-push r.client log r true (eq-eqb r.client r.client refl)

-- of another client
pub ids_of-push_other : (c : ℕ) (log : List Entry) (r : Request) → eqb r.client c ≡ false → ids_of c (log ++ Req r ∷ []) ≡ ids_of c log
ids_of-push_other c log r e = ids_of-push c log r false e ∙ append-nil (ids_of c log)

-- a request of the log has its id among its client's
pub has_id : (log : List Entry) (r : Request) (c : ℕ) → r.client ≡ c → Has log (Req r) → Has (ids_of c log) r.id
has_id [] r c own h = absurd (let e = h.1 in cc)
has_id (e ∷ log) r c own (zero, h) =
    let same : e ≡ Req r = cc in
    Has-append_left (id_in c e) (ids_of c log) r.id (rw (same, eq-eqb r.client c own) (zero, refl))
has_id (e ∷ log) r c own (suc i, h) = Has-append_right (id_in c e) (ids_of c log) r.id (has_id log r c own (i, h))

-- an id of a client in the log is that of a request there
id_of_entry : (e : Entry) (c id : ℕ) → Has (id_in c e) id → (r : Request) × (Req r ≡ e) × IsOf c id r
id_of_entry NoOp c id h = absurd (Has-none id h)
id_of_entry (Req r) c id h = on (eqb r.client c) refl h
  where
    on : (b : Bool) → eqb r.client c ≡ b → Has (cond b (r.id ∷ []) []) id → (q : Request) × (Req q ≡ Req r) × IsOf c id q
    on true e g = (r, refl, record { same_client = eqb-true r.client c e; same_id = sym (Has-one id r.id g) })
    on false e g = absurd (Has-none id g)

pub id_of_request : (log : List Entry) (c id : ℕ) → Has (ids_of c log) id → (r : Request) × Has log (Req r) × IsOf c id r
id_of_request [] c id h = absurd (Has-none id h)
id_of_request (e ∷ log) c id h =
    elim (Has-append_cases (id_in c e) (ids_of c log) id h) [
      | inl own ↦ let x = id_of_entry e c id own in (x.0, Has-first (Req x.0) e log x.1, x.2)
      | inr later ↦ let x = id_of_request log c id later in (x.0, Has-rest (Req x.0) e log x.1, x.2)
    ]

-- an id is not stale after a log where each request of its client there is less than a window ahead
pub near_in_log : (log : List Entry) (c id : ℕ) → ((r : Request) → Has log (Req r) → r.client ≡ c → r.id < id + WINDOW)
    → is_stale WINDOW (ids_of c log) id ≡ false
near_in_log log c id near = near_is_not_stale WINDOW (ids_of c log) id (omega arith) (λ k h.
    let x = id_of_request log c k h in
    subst (λ (n : ℕ). n < id + WINDOW) x.2.same_id (near x.0 x.1 x.2.same_client))

-- a request is not executed where its client has the same id before it
pub repeat_is_old : (log : List Entry) (q r : Request) → Has log (Req q) → q.client ≡ r.client → q.id ≡ r.id → is_executed log r ≡ false
repeat_is_old log q r h own same =
    and_right (is_served (clients_of (log ++ Req r ∷ [])) r.client) (is_new WINDOW (ids_of r.client log) r.id)
    (repeated_is_old WINDOW (ids_of r.client log) r.id (subst (Has (ids_of r.client log)) same (has_id log q r.client own h)))

-- nor where one is a window ahead
pub far_is_old : (log : List Entry) (q r : Request) → Has log (Req q) → q.client ≡ r.client → r.id + WINDOW ≤ q.id
    → is_executed log r ≡ false
far_is_old log q r h own far =
    and_right (is_served (clients_of (log ++ Req r ∷ [])) r.client) (is_new WINDOW (ids_of r.client log) r.id)
    (stale_is_old WINDOW (ids_of r.client log) r.id q.id (has_id log q r.client own h) far)
