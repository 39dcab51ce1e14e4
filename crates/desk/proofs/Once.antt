-- A ticket is told once: it waits, or is held, or was answered; and nothing is told for who left.
use Rattle.std.proofs.Common.{◌≡◌, ℕ, zero, suc, ◌+◌, ◌<◌, ◌≤◌, true, List, [], ◌∷◌, ◌++◌, map, Option, Some, None, refl, sym, ap, subst, ◌∙◌, arith, inl, inr}
use Rattle.std.specs.Prelude.{◌==◌, ◌⊎◌, not, filter, slice_get, slice_set}
use Rattle.nop_types.specs.Given.{Given, Submit}
use Rattle.nop_types.specs.declared.output.Out.{Out}
use Rattle.nop_types.specs.declared.output.Out.TheVariants.{Submitted, Accepted}
use Rattle.client_quorum.specs.ClientSteps.{can_submit, request_of, sent}
use Rattle.desk.specs.Desks.{left, queued}
use Rattle.desk.specs.Submitters.{core_left, held_by, labelled, outs_of, stepped, submits, submit_tells, takes, tells, without_ticket}
use Rattle.desk.specs.declared.desk_state.DeskState.{DeskState}
use Rattle.desk.specs.declared.submitter.Labelled.{Labelled}
use Rattle.desk.specs.declared.submitter.OpenTicket.{OpenTicket}
use Rattle.desk.specs.declared.submitter.Queued.{Queued}
use Rattle.desk.specs.declared.submitter.Submitter.{Submitter}
use Rattle.desk.proofs.Filling.{Keeps}
use Rattle.desk.proofs.Labels.{held_times, labels_balance, submit_outs, told_times}
use Rattle.desk.proofs.Totals.{hit, hit-le, hit-other, hit-same, hit_of, others-hit, total, total-append, total-filter_le, total-filter_none}
use Rattle.desk.proofs.Totals.{total-le, total-map_le, total-map_none, total-push, total-set}

-- how often a ticket is held by cores, waits, and was answered
abbrev pub cores_times : ℕ → List Submitter → ℕ
cores_times t cores = total (λ s. held_times t s.held) cores

abbrev pub queue_times : ℕ → List Queued → ℕ
queue_times t queue = total (λ q. hit t q.ticket) queue

-- 1 where it is an answer for the ticket
abbrev pub answers : ℕ → Option ℕ → Out → ℕ
answers t ticket (Accepted client id result) = hit_of t ticket
answers t ticket _ = 0

abbrev pub answer_times : ℕ → List Labelled → ℕ
answer_times t told = total (λ g. answers t g.ticket g.out) told

answers_le : (t : ℕ) (ticket : Option ℕ) (out : Out) → answers t ticket out ≤ hit_of t ticket
answers_le t ticket (Accepted client id result) = omega arith
answers_le t ticket _ = omega arith

told_more : (t : ℕ) (told : List Labelled) → answer_times t told ≤ told_times t told
told_more t told = total-le (λ (g : Labelled). answers t g.ticket g.out) (λ g. hit_of t g.ticket) told (λ g. answers_le t g.ticket g.out)

-- ---- what steps do to these

-- an input comes to a core
came_cores : (t : ℕ) (cores : List Submitter) (i : ℕ) (s : Submitter) (x : Given) → slice_get cores i ≡ Some s
    → cores_times t (slice_set cores i (takes s x)) + told_times t (tells i s x) ≤ cores_times t cores
came_cores t cores i s x at =
    let placed : cores_times t (slice_set cores i (takes s x)) + held_times t s.held
    ≡ cores_times t cores + held_times t (held_by s.held (outs_of s x)) =
    total-set (λ (c : Submitter). held_times t c.held) cores i s (takes s x) at in
    let b = labels_balance t i s.held (outs_of s x) in
    omega (arith, placed, b)

-- an op is submitted
given_cores : (t : ℕ) (cores : List Submitter) (i : ℕ) (s : Submitter) (q : Queued) → slice_get cores i ≡ Some s
    → cores_times t (slice_set cores i (submits s q)) ≡ cores_times t cores + hit t q.ticket
given_cores t cores i s q at =
    let last : OpenTicket = record { id = (stepped s (Submit q.op)).state.requests.last_id; ticket = q.ticket } in
    let placed : cores_times t (slice_set cores i (submits s q)) + held_times t s.held ≡ cores_times t cores + held_times t (s.held ++ last ∷ []) =
    total-set (λ (c : Submitter). held_times t c.held) cores i s (submits s q) at in
    let b : held_times t (s.held ++ last ∷ []) ≡ held_times t s.held + hit t q.ticket =
    total-push (λ (h : OpenTicket). hit t h.ticket) s.held last in
    omega (arith, placed, b)

-- which answers nobody
given_answers : (t i : ℕ) (s : Submitter) (q : Queued) → can_submit s.client.state.requests ≡ true → answer_times t (submit_tells i s q) ≡ 0
given_answers t i s q may = ap (λ (outs : List Out). answer_times t (labelled i q.ticket outs)) (submit_outs s q may)

-- and is told for its ticket alone
given_told : (t i : ℕ) (s : Submitter) (q : Queued) → can_submit s.client.state.requests ≡ true
    → told_times t (submit_tells i s q) ≡ hit t q.ticket + (hit t q.ticket + 0)
given_told t i s q may = ap (λ (outs : List Out). told_times t (labelled i q.ticket outs)) (submit_outs s q may)

-- a user left
left_held : (t u : ℕ) (c : Submitter) → held_times t (core_left u c).held ≤ held_times t c.held
left_held t u c = total-filter_le (λ (h : OpenTicket). hit t h.ticket) (λ h. not (h.ticket == u)) c.held

left_cores : (t u : ℕ) (cores : List Submitter) → cores_times t (map (core_left u) cores) ≤ cores_times t cores
left_cores t u cores = total-map_le (λ (c : Submitter). held_times t c.held) (core_left u) cores (λ c. left_held t u c)

left_queue : (t u : ℕ) (queue : List Queued) → queue_times t (filter (λ q. not (q.ticket == u)) queue) ≤ queue_times t queue
left_queue t u queue = total-filter_le (λ (q : Queued). hit t q.ticket) (λ q. not (q.ticket == u)) queue

-- ---- at most one answer

-- the ticket is in one place at most, and in none before it is given out
pub record IsOnce (t : ℕ) (d : DeskState) (told : List Labelled) : Type 0 where
  pub one : cores_times t d.cores + queue_times t d.queue + answer_times t told ≤ 1
  pub fresh : d.taken ≤ t → cores_times t d.cores + queue_times t d.queue + answer_times t told ≡ 0

module _ (t : ℕ) where
  taken_once : (ops : List (List ℕ)) (d : DeskState) (told : List Labelled) (op : List ℕ) → IsOnce t d told → IsOnce t (queued d op) told
  taken_once ops d told op h =
      let mine : Queued = record { ticket = d.taken; op = op } in
      let push : queue_times t (d.queue ++ mine ∷ []) ≡ queue_times t d.queue + hit t d.taken =
      total-push (λ (q : Queued). hit t q.ticket) d.queue mine in
      let low = hit-le (d.taken == t) in
      let one = h.one in
      let fresh = h.fresh in
      record {
        one = elim (same_or_other d.taken t) [
          | inl same ↦ (let f = fresh (at_most same) in omega (arith, push, low, f))
          | inr other ↦ (let z = hit-other t d.taken other in omega (arith, push, z, one))
        ];
        fresh = λ above.
            let f = fresh (omega (arith, above)) in
            let z = hit-other t d.taken (λ e. omega (arith, e, above)) in
            omega (arith, push, z, f);
      }
    where
      same_or_other : (a b : ℕ) → (a ≡ b) ⊎ (a ≡ b → ⊥)
      same_or_other zero zero = inl refl
      same_or_other zero (suc b) = inr (λ e. omega (arith, e))
      same_or_other (suc a) zero = inr (λ e. omega (arith, e))
      same_or_other (suc a) (suc b) = elim (same_or_other a b) [
        | inl e ↦ inl (ap suc e)
        | inr d ↦ inr (λ e. d (omega (arith, e)))
      ]

      at_most : {a b : ℕ} → a ≡ b → a ≤ b
      at_most e = omega (arith, e)

  left_once : (ops : List (List ℕ)) (d : DeskState) (told : List Labelled) (u : ℕ) → IsOnce t d told → IsOnce t (left d u) told
  left_once ops d told u h =
      let a = left_cores t u d.cores in
      let b = left_queue t u d.queue in
      let one = h.one in
      record { one = omega (arith, a, b, one); fresh = λ above. (let f = h.fresh above in omega (arith, a, b, f)) }

  came_once : (ops : List (List ℕ)) (d : DeskState) (told : List Labelled) (i : ℕ) (s : Submitter) (x : Given) → slice_get d.cores i ≡ Some s
      → IsOnce t d told → IsOnce t (record d { cores = slice_set d.cores i (takes s x) }) (told ++ tells i s x)
  came_once ops d told i s x at h =
      let a = came_cores t d.cores i s x at in
      let b = told_more t (tells i s x) in
      let both : answer_times t (told ++ tells i s x) ≡ answer_times t told + answer_times t (tells i s x) =
      total-append (λ (g : Labelled). answers t g.ticket g.out) told (tells i s x) in
      let one = h.one in
      record { one = omega (arith, a, b, both, one); fresh = λ above. (let f = h.fresh above in omega (arith, a, b, both, f)) }

  given_once : (ops : List (List ℕ)) (taken : ℕ) (cores : List Submitter) (q : Queued) (qs : List Queued) (told : List Labelled) (i : ℕ)
      (s : Submitter) → slice_get cores i ≡ Some s → can_submit s.client.state.requests ≡ true
      → IsOnce t (record { cores = cores; queue = q ∷ qs; taken = taken }) told
      → IsOnce t (record { cores = slice_set cores i (submits s q); queue = qs; taken = taken }) (told ++ submit_tells i s q)
  given_once ops taken cores q qs told i s at may h =
      let a = given_cores t cores i s q at in
      let b = given_answers t i s q may in
      let both : answer_times t (told ++ submit_tells i s q) ≡ answer_times t told + answer_times t (submit_tells i s q) =
      total-append (λ (g : Labelled). answers t g.ticket g.out) told (submit_tells i s q) in
      let one = h.one in
      record { one = omega (arith, a, b, both, one); fresh = λ above. (let f = h.fresh above in omega (arith, a, b, both, f)) }

  pub keeps_once : Keeps (λ ops d told. IsOnce t d told)
  keeps_once =
      record {
        on_take = λ ops d told op h. taken_once ops d told op h;
        on_leave = λ ops d told u h. left_once ops d told u h;
        on_come = λ ops d told i s x at h. came_once ops d told i s x at h;
        on_submit = λ ops taken cores q qs told i s at may h. given_once ops taken cores q qs told i s at may h;
      }

-- ---- nothing for who left

-- the ticket was given out, is nowhere, and nothing was told for it
pub record IsGone (t : ℕ) (d : DeskState) (told : List Labelled) : Type 0 where
  pub given : t < d.taken
  pub nowhere : cores_times t d.cores + queue_times t d.queue ≡ 0
  pub untold : told_times t told ≡ 0

pub left_gone : (t : ℕ) (d : DeskState) → t < d.taken → IsGone t (left d t) []
left_gone t d given =
    let a : cores_times t (map (core_left t) d.cores) ≡ 0 = total-map_none (λ (c : Submitter). held_times t c.held) (core_left t) d.cores
    (λ c. total-filter_none (λ (h : OpenTicket). hit t h.ticket) (λ h. not (h.ticket == t)) c.held (λ h e. others-hit t h.ticket e)) in
    let b : queue_times t (filter (λ q. not (q.ticket == t)) d.queue) ≡ 0 = total-filter_none (λ (q : Queued). hit t q.ticket) (λ q. not (q.ticket == t)) d.queue (λ q e. others-hit t q.ticket e) in
    record { given = given; nowhere = omega (arith, a, b); untold = refl }

module _ (t : ℕ) where
  taken_gone : (d : DeskState) (told : List Labelled) (op : List ℕ) → IsGone t d told → IsGone t (queued d op) told
  taken_gone d told op h =
      let mine : Queued = record { ticket = d.taken; op = op } in
      let push : queue_times t (d.queue ++ mine ∷ []) ≡ queue_times t d.queue + hit t d.taken =
      total-push (λ (q : Queued). hit t q.ticket) d.queue mine in
      let given = h.given in
      let nowhere = h.nowhere in
      let z = hit-other t d.taken (λ e. omega (arith, e, given)) in
      record { given = omega (arith, given); nowhere = omega (arith, push, z, nowhere); untold = h.untold }

  gone_left : (d : DeskState) (told : List Labelled) (u : ℕ) → IsGone t d told → IsGone t (left d u) told
  gone_left d told u h =
      let a = left_cores t u d.cores in
      let b = left_queue t u d.queue in
      let nowhere = h.nowhere in
      record { given = h.given; nowhere = omega (arith, a, b, nowhere); untold = h.untold }

  came_gone : (d : DeskState) (told : List Labelled) (i : ℕ) (s : Submitter) (x : Given) → slice_get d.cores i ≡ Some s
      → IsGone t d told → IsGone t (record d { cores = slice_set d.cores i (takes s x) }) (told ++ tells i s x)
  came_gone d told i s x at h =
      let a = came_cores t d.cores i s x at in
      let both : told_times t (told ++ tells i s x) ≡ told_times t told + told_times t (tells i s x) =
      total-append (λ (g : Labelled). hit_of t g.ticket) told (tells i s x) in
      let nowhere = h.nowhere in
      let untold = h.untold in
      record { given = h.given; nowhere = omega (arith, a, nowhere); untold = omega (arith, a, both, nowhere, untold) }

  given_gone : (taken : ℕ) (cores : List Submitter) (q : Queued) (qs : List Queued) (told : List Labelled) (i : ℕ) (s : Submitter)
      → slice_get cores i ≡ Some s → can_submit s.client.state.requests ≡ true
      → IsGone t (record { cores = cores; queue = q ∷ qs; taken = taken }) told
      → IsGone t (record { cores = slice_set cores i (submits s q); queue = qs; taken = taken }) (told ++ submit_tells i s q)
  given_gone taken cores q qs told i s at may h =
      let a = given_cores t cores i s q at in
      let b = given_told t i s q may in
      let both : told_times t (told ++ submit_tells i s q) ≡ told_times t told + told_times t (submit_tells i s q) =
      total-append (λ (g : Labelled). hit_of t g.ticket) told (submit_tells i s q) in
      let nowhere = h.nowhere in
      let untold = h.untold in
      record { given = h.given; nowhere = omega (arith, a, nowhere); untold = omega (arith, b, both, nowhere, untold) }

  pub keeps_gone : Keeps (λ ops d told. IsGone t d told)
  keeps_gone =
      record {
        on_take = λ ops d told op h. taken_gone d told op h;
        on_leave = λ ops d told u h. gone_left d told u h;
        on_come = λ ops d told i s x at h. came_gone d told i s x at h;
        on_submit = λ ops taken cores q qs told i s at may h. given_gone taken cores q qs told i s at may h;
      }
