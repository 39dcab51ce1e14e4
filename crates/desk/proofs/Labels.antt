-- What a core tells in a step, and for which tickets.
use Rattle.std.proofs.Common.{◌≡◌, ℕ, zero, suc, ◌+◌, ◌≤◌, Bool, true, false, cond, List, [], ◌∷◌, ◌++◌, Option, Some, None, refl, ap, subst, arith}
use Rattle.std.specs.Prelude.{◌==◌, ⊤, not, find, filter, option_map, slice_get}
use Rattle.std.proofs.lemmas.Bool.{eqb-true}
use Rattle.nop_types.specs.Given.{Given, Submit}
use Rattle.nop_types.specs.Lists.{Has}
use Rattle.nop_types.specs.declared.output.Out.{Out}
use Rattle.nop_types.specs.declared.output.Out.TheVariants.{Submitted, Accepted}
use Rattle.client_quorum.specs.ClientSteps as requests
use Rattle.client_quorum.specs.ClientSteps.{can_submit, request_of, sent, submit_if}
use Rattle.client_reads.specs.ReadSteps as reads
use Rattle.lemmas.proofs.Members.{Has-from_filter, Has-from_find}
use Rattle.desk.specs.Submitters.{held_after, held_by, labels, outs_of, stepped, ticket_for, ticket_of, without_id}
use Rattle.desk.specs.declared.submitter.Labelled.{Labelled}
use Rattle.desk.specs.declared.submitter.OpenTicket.{OpenTicket}
use Rattle.desk.specs.declared.submitter.Queued.{Queued}
use Rattle.desk.specs.declared.submitter.Submitter.{Submitter}
use Rattle.desk.proofs.Totals.{total, hit, hit_of}

-- ---- an answer is for the ticket of its request

-- only an acceptance is for a ticket, that of a request of its id
abbrev pub IsFrom : List OpenTicket → Option ℕ → Out → Type 0
IsFrom held (Some ticket) (Accepted client id result) = (h : OpenTicket) × Has held h × (h.ticket ≡ ticket) × (h.id ≡ id)
IsFrom held (Some ticket) _ = ⊥
IsFrom held None _ = ⊤

found_from : (held : List OpenTicket) (client id : ℕ) (result : List ℕ) (o : Option OpenTicket) → find (λ h. h.id == id) held ≡ o
    → IsFrom held (option_map (λ h. h.ticket) o) (Accepted client id result)
found_from held client id result None e = tt
found_from held client id result (Some h) e =
    let r = Has-from_find (λ (k : OpenTicket). k.id == id) held h e in
    (h, r.0, refl, eqb-true h.id id r.1)

first_from : (held : List OpenTicket) (out : Out) → IsFrom held (ticket_for held out) out
first_from held (Accepted client id result) = found_from held client id result (find (λ h. h.id == id) held) refl
first_from held _ = tt

wider : (held rest : List OpenTicket) → ((h : OpenTicket) → Has rest h → Has held h) → (t : Option ℕ) (out : Out)
    → IsFrom rest t out → IsFrom held t out
wider held rest sub (Some t) (Accepted client id result) f = (f.0, sub f.0 f.1, f.2, f.3)
wider held rest sub (Some t) _ f = f
wider held rest sub None _ f = tt

after_has : (held : List OpenTicket) (out : Out) (h : OpenTicket) → Has (held_after held out) h → Has held h
after_has held (Accepted client id result) h has = (Has-from_filter (λ (k : OpenTicket). not (k.id == id)) h held has).0
after_has held _ h has = has

-- what is held after a step was held before
pub by_has : (held : List OpenTicket) (outs : List Out) (h : OpenTicket) → Has (held_by held outs) h → Has held h
by_has held [] h has = has
by_has held (out ∷ outs) h has = after_has held out h (by_has (held_after held out) outs h has)

pub label_from : (core : ℕ) (held : List OpenTicket) (outs : List Out) (m : ℕ) (g : Labelled) → slice_get (labels core held outs) m ≡ Some g
    → (g.core ≡ core) × IsFrom held g.ticket g.out
label_from core held [] m g h = absurd cc
label_from core held (out ∷ outs) zero g h =
    let first : Labelled = record { core = core; ticket = ticket_for held out; out = out } in
    let same : first ≡ g = cc in
    subst (λ (l : Labelled). (l.core ≡ core) × IsFrom held l.ticket l.out) same (refl, first_from held out)
label_from core held (out ∷ outs) (suc m) g h =
    let r = label_from core (held_after held out) outs m g h in
    (r.0, wider held (held_after held out) (λ k has. after_has held out k has) g.ticket g.out r.1)

-- ---- each ticket is told once

abbrev pub held_times : ℕ → List OpenTicket → ℕ
held_times t held = total (λ h. hit t h.ticket) held

-- for the ticket
abbrev pub told_times : ℕ → List Labelled → ℕ
told_times t told = total (λ g. hit_of t g.ticket) told

closes_at : (t : ℕ) (h : OpenTicket) (hs rest : List OpenTicket) (o : Option OpenTicket) (b : Bool)
    → hit_of t (option_map (λ k. k.ticket) o) + held_times t rest ≤ held_times t hs → held_times t rest ≤ held_times t hs
    → hit_of t (option_map (λ k. k.ticket) (cond b (Some h) o)) + held_times t (cond (not b) (h ∷ rest) rest) ≤ held_times t (h ∷ hs)
closes_at t h hs rest o true i low = omega (arith, i, low)
closes_at t h hs rest o false i low = omega (arith, i, low)

closes : (t id : ℕ) (held : List OpenTicket) → hit_of t (ticket_of held id) + held_times t (without_id held id) ≤ held_times t held
closes t id [] = omega arith
closes t id (h ∷ hs) =
    let i = closes t id hs in
    let low : held_times t (without_id hs id) ≤ held_times t hs = omega (arith, i) in
    closes_at t h hs (without_id hs id) (find (λ k. k.id == id) hs) (h.id == id) i low

told_step : (t : ℕ) (held : List OpenTicket) (out : Out) → hit_of t (ticket_for held out) + held_times t (held_after held out) ≤ held_times t held
told_step t held (Accepted client id result) = closes t id held
told_step t held _ = omega arith

-- a ticket that is told was held, and is held no more
pub labels_balance : (t core : ℕ) (held : List OpenTicket) (outs : List Out)
    → told_times t (labels core held outs) + held_times t (held_by held outs) ≤ held_times t held
labels_balance t core held [] = omega arith
labels_balance t core held (out ∷ outs) =
    let i = labels_balance t core (held_after held out) outs in
    let s = told_step t held out in
    omega (arith, i, s)

-- ---- a submission

module _ (s : Submitter) (q : Queued) (may : can_submit s.client.state.requests ≡ true) where
  pub submit_outs : outs_of s (Submit q.op)
      ≡ Submitted (request_of s.client.state.requests q.op) ∷ sent (request_of s.client.state.requests q.op) ∷ []
  unfolding requests.next reads.next
  submit_outs = ap (λ (b : Bool). (submit_if b s.client.state.requests (request_of s.client.state.requests q.op)).1 ++ []) may

  pub submit_id : (stepped s (Submit q.op)).state.requests.last_id ≡ s.client.state.requests.last_id + 1
  unfolding requests.next reads.next
  submit_id = ap (λ (b : Bool). (submit_if b s.client.state.requests (request_of s.client.state.requests q.op)).0.last_id) may
