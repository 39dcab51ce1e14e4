-- What is told for a ticket is true.
use Rattle.std.proofs.Common.{true, ◌≡◌, ℕ, zero, suc, ◌+◌, ◌<◌, List, [], ◌∷◌, ◌++◌, length, map, Option, Some, None, refl, sym, ap, subst, ◌∙◌, arith, inl, inr}
use Rattle.std.specs.Prelude.{◌==◌, ◌⊎◌, not, filter, slice_get, slice_set}
use Rattle.nop_types.specs.Given.{Given, Submit}
use Rattle.nop_types.specs.Lists.{Has}
use Rattle.nop_types.specs.declared.output.Out.{Out}
use Rattle.nop_types.specs.declared.output.Out.TheVariants.{Submitted, Accepted}
use Rattle.nop_types.specs.declared.request.Request.{Request}
use Rattle.client_quorum.specs.ClientSteps.{can_submit, request_of, sent}
use Rattle.std.proofs.lemmas.Option.{slice_get_within}
use Rattle.lemmas.proofs.Members.{Has-from_filter, Has-push_cases, Has-rest}
use Rattle.lemmas.proofs.Places.{slice_get-append_at, slice_get-append_cases, slice_get-append_left, slice_get-set_cases}
use Rattle.desk.specs.Desks.{left, queued}
use Rattle.desk.specs.Runs.{IsTold, IsTrue, WasSubmitted}
use Rattle.desk.specs.Submitters.{labelled, labels, outs_of, stepped, submits, submit_tells, takes, tells, without_ticket}
use Rattle.desk.specs.declared.desk_state.DeskState.{DeskState}
use Rattle.desk.specs.declared.submitter.Labelled.{Labelled}
use Rattle.desk.specs.declared.submitter.OpenTicket.{OpenTicket}
use Rattle.desk.specs.declared.submitter.Queued.{Queued}
use Rattle.desk.specs.declared.submitter.Submitter.{Submitter}
use Rattle.desk.proofs.Filling.{Keeps}
use Rattle.desk.proofs.Mapped.{mapped}
use Rattle.desk.proofs.Labels.{IsFrom, by_has, label_from, submit_id, submit_outs}

-- the request of this id was submitted by the core for the ticket
pub record IsSubmitted (told : List Labelled) (core ticket id : ℕ) : Type 0 where
  pub request : Request
  pub place : ℕ
  pub at : slice_get told place ≡ Some (record { core = core; ticket = Some ticket; out = Submitted request })
  pub of_id : request.id ≡ id

-- an op that waits is that of its ticket, a ticket that is held was submitted, and what was told is true
pub record IsRight (ops : List (List ℕ)) (d : DeskState) (all : List Labelled) : Type 0 where
  pub taken : d.taken ≡ length ops
  pub queue : (q : Queued) → Has d.queue q → slice_get ops q.ticket ≡ Some q.op
  pub held : (i : ℕ) (s : Submitter) (h : OpenTicket) → slice_get d.cores i ≡ Some s → Has s.held h → IsSubmitted all i h.ticket h.id
  pub told : IsTold ops all

-- ---- more ops, and more that is told

still : (ops more : List (List ℕ)) (told : List Labelled) (k core : ℕ) (t : Option ℕ) (out : Out)
    → IsTrue ops told k core t out → IsTrue (ops ++ more) told k core t out
still ops more told k core (Some t) (Submitted r) h = slice_get-append_left ops more t r.op h
still ops more told k core (Some t) (Accepted client id result) h = h
still ops more told k core (Some t) _ h = tt
still ops more told k core None _ h = tt

told_still : (ops : List (List ℕ)) (told more : List Labelled) (k core : ℕ) (t : Option ℕ) (out : Out)
    → IsTrue ops told k core t out → IsTrue ops (told ++ more) k core t out
told_still ops told more k core (Some t) (Submitted r) h = h
told_still ops told more k core (Some t) (Accepted client id result) h =
    record {
      request = h.request;
      earlier = h.earlier;
      before = h.before;
      submitted = slice_get-append_left told more h.earlier _ h.submitted;
      of_id = h.of_id;
    }
told_still ops told more k core (Some t) _ h = tt
told_still ops told more k core None _ h = tt

submitted_still : (told more : List Labelled) (core t id : ℕ) → IsSubmitted told core t id → IsSubmitted (told ++ more) core t id
submitted_still told more core t id h =
    record { request = h.request; place = h.place; at = slice_get-append_left told more h.place _ h.at; of_id = h.of_id }

-- where what is told last is true as well
told_more : (ops : List (List ℕ)) (told more : List Labelled) → IsTold ops told
    → ((m : ℕ) (g : Labelled) → slice_get more m ≡ Some g → IsTrue ops (told ++ more) (length told + m) g.core g.ticket g.out)
    → IsTold ops (told ++ more)
told_more ops told more old new k g h =
    elim (slice_get-append_cases told more k g h) [
      | inl l ↦ told_still ops told more k g.core g.ticket g.out (old k g l.1)
      | inr r ↦ subst (λ (n : ℕ). IsTrue ops (told ++ more) n g.core g.ticket g.out) (sym r.1) (new r.0 g r.2)
    ]

-- ---- an op is taken

taken_right : (ops : List (List ℕ)) (d : DeskState) (told : List Labelled) (op : List ℕ) → IsRight ops d told
    → IsRight (ops ++ op ∷ []) (queued d op) told
taken_right ops d told op r =
    let mine : Queued = record { ticket = d.taken; op = op } in
    record {
      taken = (let e = r.taken in let l = one_more ops op in omega (arith, e, l));
      queue = λ q h. elim (Has-push_cases d.queue mine q h) [
        | inl old ↦ slice_get-append_left ops (op ∷ []) q.ticket q.op (r.queue q old)
        | inr same ↦ subst (λ (p : Queued). slice_get (ops ++ op ∷ []) p.ticket ≡ Some p.op) same
            (subst (λ (n : ℕ). slice_get (ops ++ op ∷ []) n ≡ Some op) (sym r.taken) (slice_get-append_at ops op []))
      ];
      held = r.held;
      told = λ k g h. still ops (op ∷ []) told k g.core g.ticket g.out (r.told k g h);
    }
  where
    one_more : (xs : List (List ℕ)) (x : List ℕ) → length (xs ++ x ∷ []) ≡ length xs + 1
    one_more [] x = omega arith
    one_more (y ∷ xs) x = let e = one_more xs x in omega (arith, e)

-- ---- a user left

left_right : (ops : List (List ℕ)) (d : DeskState) (told : List Labelled) (t : ℕ) → IsRight ops d told → IsRight ops (left d t) told
left_right ops d told t r =
    record {
      taken = r.taken;
      queue = λ q h. r.queue q (Has-from_filter (λ (p : Queued). not (p.ticket == t)) q d.queue h).0;
      held = λ i s h at has.
          let c = mapped t d.cores i s at in
          r.held i c.0 h c.1
          (Has-from_filter (λ (k : OpenTicket). not (k.ticket == t)) h c.0.held (subst (λ (k : Submitter). Has k.held h) (sym c.2) has)).0;
      told = r.told;
    }

-- ---- an input comes to a core

module _ (ops : List (List ℕ)) (d : DeskState) (told : List Labelled) (i : ℕ) (s : Submitter) (x : Given) (at : slice_get d.cores i ≡ Some s)
    (r : IsRight ops d told) where
  answered : (m : ℕ) (t : Option ℕ) (out : Out) → IsFrom s.held t out → IsTrue ops (told ++ tells i s x) (length told + m) i t out
  answered m (Some t) (Accepted client id result) f =
      let w = r.held i s f.0 at f.1 in
      let placed = slice_get-append_left told (tells i s x) w.place _ w.at in
      record {
        request = w.request;
        earlier = w.place;
        before = (let l = slice_get_within told w.place _ w.at in omega (arith, l));
        submitted = subst (λ (n : ℕ). slice_get (told ++ tells i s x) w.place ≡ Some (record { core = i; ticket = Some n; out = Submitted w.request })) f.2 placed;
        of_id = w.of_id ∙ f.3;
      }
  answered m (Some t) (Submitted q) f = absurd f
  answered m (Some t) _ f = tt
  answered m None _ f = tt

  came_right : IsRight ops (record d { cores = slice_set d.cores i (takes s x) }) (told ++ tells i s x)
  came_right =
      record {
        taken = r.taken;
        queue = r.queue;
        held = λ j c h here has. elim (slice_get-set_cases d.cores i (takes s x) j c here) [
          | inl (a, b) ↦
              let mine : Has s.held h = by_has s.held (outs_of s x) h (subst (λ (k : Submitter). Has k.held h) b has) in
              subst (λ (n : ℕ). IsSubmitted (told ++ tells i s x) n h.ticket h.id) (sym a)
              (submitted_still told (tells i s x) i h.ticket h.id (r.held i s h at mine))
          | inr (a, b) ↦ submitted_still told (tells i s x) j h.ticket h.id (r.held j c h b has)
        ];
        told = told_more ops told (tells i s x) r.told (λ m g here.
            let l = label_from i s.held (outs_of s x) m g here in
            subst (λ (n : ℕ). IsTrue ops (told ++ tells i s x) (length told + m) n g.ticket g.out) (sym l.0) (answered m g.ticket g.out l.1));
      }

-- ---- an op is submitted

module _ (ops : List (List ℕ)) (taken : ℕ) (cores : List Submitter) (q : Queued) (qs : List Queued) (told : List Labelled) (i : ℕ) (s : Submitter)
    (at : slice_get cores i ≡ Some s) (may : can_submit s.client.state.requests ≡ true)
    (r : IsRight ops (record { cores = cores; queue = q ∷ qs; taken = taken }) told) where
  abbrev mine : Request
  mine = request_of s.client.state.requests q.op

  abbrev label : Out → Labelled
  label out = record { core = i; ticket = Some q.ticket; out = out }

  abbrev two : List Labelled
  two = label (Submitted mine) ∷ label (sent mine) ∷ []

  tells_two : submit_tells i s q ≡ two
  tells_two = ap (λ (outs : List Out). labelled i q.ticket outs) (submit_outs s q may)

  new : (m : ℕ) (g : Labelled) → slice_get two m ≡ Some g → IsTrue ops (told ++ two) (length told + m) g.core g.ticket g.out
  new zero g h =
      let same : label (Submitted mine) ≡ g = cc in
      subst (λ (l : Labelled). IsTrue ops (told ++ two) (length told + zero) l.core l.ticket l.out) same (r.queue q (zero, refl))
  new (suc zero) g h =
      let same : label (sent mine) ≡ g = cc in
      subst (λ (l : Labelled). IsTrue ops (told ++ two) (length told + suc zero) l.core l.ticket l.out) same tt
  new (suc (suc m)) g h = absurd cc

  held_new : IsSubmitted (told ++ two) i q.ticket (stepped s (Submit q.op)).state.requests.last_id
  held_new =
      record {
        request = mine;
        place = length told;
        at = slice_get-append_at told (label (Submitted mine)) (label (sent mine) ∷ []);
        of_id = sym (submit_id s q may);
      }

  -- of what the core holds then
  held_then : (h : OpenTicket) → Has (submits s q).held h → IsSubmitted (told ++ two) i h.ticket h.id
  held_then h has =
      let last : OpenTicket = record { id = (stepped s (Submit q.op)).state.requests.last_id; ticket = q.ticket } in
      elim (Has-push_cases s.held last h has) [
        | inl old ↦ submitted_still told two i h.ticket h.id (r.held i s h at old)
        | inr same ↦ subst (λ (k : OpenTicket). IsSubmitted (told ++ two) i k.ticket k.id) same held_new
      ]

  with_two : IsRight ops (record { cores = slice_set cores i (submits s q); queue = qs; taken = taken }) (told ++ two)
  with_two =
      record {
        taken = r.taken;
        queue = λ p h. r.queue p (Has-rest p q qs h);
        held = λ j c h here has. elim (slice_get-set_cases cores i (submits s q) j c here) [
          | inl (a, b) ↦
              subst (λ (n : ℕ). IsSubmitted (told ++ two) n h.ticket h.id) (sym a) (held_then h (subst (λ (k : Submitter). Has k.held h) b has))
          | inr (a, b) ↦ submitted_still told two j h.ticket h.id (r.held j c h b has)
        ];
        told = told_more ops told two r.told new;
      }

  submitted_right : IsRight ops (record { cores = slice_set cores i (submits s q); queue = qs; taken = taken }) (told ++ submit_tells i s q)
  submitted_right =
      subst (λ (more : List Labelled). IsRight ops (record { cores = slice_set cores i (submits s q); queue = qs; taken = taken }) (told ++ more))
      (sym tells_two) with_two

pub keeps_right : Keeps IsRight
keeps_right =
    record {
      on_take = taken_right;
      on_leave = left_right;
      on_come = λ ops d told i s x at r. came_right ops d told i s x at r;
      on_submit = λ ops taken cores q qs told i s at may r. submitted_right ops taken cores q qs told i s at may r;
    }
