-- A request beside which none is open: after its acceptance none is.
use Rattle.std.proofs.Common.{◌≡◌, ℕ, zero, suc, ◌+◌, ◌≤◌, true, false, Option, Some, None, refl, sym, ap, subst, ◌∙◌, inl, inr, arith}
use Rattle.std.proofs.Common.{List, [], ◌∷◌, ◌++◌, length}
use Rattle.std.specs.Prelude.{◌⊎◌, ◌==◌, nat_lt, not, OnOk, Result, Ok, Err}
use Rattle.std.proofs.lemmas.Bool.{eq-eqb, eqb-true}
use Rattle.nop_types.specs.Configuration.{Configuration}
use Rattle.nop_types.specs.declared.limits.TheConstants.{WINDOW}
use Rattle.nop_types.specs.Given.{Given, Submit}
use Rattle.nop_types.specs.Lists.{Has}
use Rattle.nop_types.specs.declared.output.Accept.{Accept}
use Rattle.nop_types.specs.declared.output.Out.{Out}
use Rattle.nop_types.specs.declared.output.Out.TheVariants.{Send, Submitted, Accepted, Busy}
use Rattle.nop_types.specs.declared.request.Request.{Request}
use Rattle.lemmas.proofs.Members.{Has-from_filter, Has-from_find, Has-none, Has-one, Has-push_cases, find-some}
use Rattle.client_quorum.specs.ClientSteps.{can_submit, kept, next, opening, request_of, submitted}
use Rattle.client_quorum.specs.OpenRequests.{open_requests}
use Rattle.client_quorum.specs.Opens.{accepted_in, recent_at}
use Rattle.client_quorum.specs.Rows.{Row, Rests, SaysBusy, Opens, Repeats, Keeps, Accepts}
use Rattle.client_quorum.specs.Runs.{after, gave, ops_of, without, Holds, TakesTurns}
use Rattle.client_quorum.specs.declared.state.ClientState.{ClientState}
use Rattle.client_quorum.proofs.OpenRequests.{closes, expected_is_open, keeps, open_has, opens}
use Rattle.client_quorum.proofs.Recents.{recent_kept}
use Rattle.client_quorum.proofs.RowLemmas.{row_of}
use Rattle.client_quorum.proofs.Turns.{takes_turns}
use Rattle.client_quorum.proofs.Waits.{last_counts}
use Rattle.udp_node.specs.Effects.{step_effects}
use Rattle.udp_node.specs.Folding.{AllOutside, TookSome}
use Rattle.udp_node.specs.NodeRun.{first_inputs}
use Rattle.udp_node.specs.declared.address.Address.{Address}
use Rattle.client_call.specs.Calls.{GivesAccepted}
use Rattle.client_call.specs.Sessions as sessions
use Rattle.client_call.specs.Sessions.{HasNoneOpen, IsRun, SessionState, acceptance, awaiting, first_of}
use Rattle.client_call.specs.declared.errors.CallError.{CallError}
use Rattle.client_call.proofs.Sessions.{acceptance_next, begun, had_room, no_op, others, row_rests, waits_none}

-- the only open request is the one that is accepted
pub alone_is : (r : Request) (id : ℕ) → Holds (r ∷ []) id → id ≡ r.id
alone_is r id h = sym h.2 ∙ ap (λ (q : Request). q.id) (Has-one h.0 r h.1)

pub alone_left : (r : Request) (id : ℕ) → id ≡ r.id → without (r ∷ []) id ≡ []
alone_left r id is = rw (eq-eqb r.id id (sym is)) refl

-- ---- what is accepted was submitted before

abbrev AreLow : List Request → ℕ → Type 0
AreLow held last = (q : Request) → Has held q → q.id ≤ last

accepted_low : (number : ℕ) (held : List Request) (last : ℕ) (outs : List Out) → AreLow held last → TakesTurns number held last outs
    → (client id : ℕ) (result : List ℕ) → Has outs (Accepted client id result) → id ≤ last + length (ops_of outs)
accepted_low number held last [] low t client id result h = absurd (Has-none (Accepted client id result) h)
accepted_low number held last (Submitted r ∷ outs) low t client id result (zero, e) = absurd cc
accepted_low number held last (Submitted r ∷ outs) low t client id result (suc i, e) =
    let its = t.2 in
    let rest = accepted_low number (held ++ r ∷ []) (last + 1) outs
    (λ q has. elim (Has-push_cases held r q has) [
      | inl old ↦ (let l = low q old in omega (arith, l))
      | inr same ↦ (let is = ap (λ (p : Request). p.id) same in omega (arith, is, its))
    ]) t.3 client id result (i, e) in
    omega (arith, rest)
accepted_low number held last (Send dest bytes ∷ outs) low t client id result (zero, e) = absurd cc
accepted_low number held last (Send dest bytes ∷ outs) low t client id result (suc i, e) =
    accepted_low number held last outs low t.1 client id result (i, e)
accepted_low number held last (Accepted c k a ∷ outs) low t client id result (zero, e) =
    let is : k ≡ id = cc in
    let of_held = t.0 in
    let l = low of_held.0 of_held.1 in
    let its = of_held.2 in
    omega (arith, is, l, its)
accepted_low number held last (Accepted c k a ∷ outs) low t client id result (suc i, e) =
    accepted_low number (without held k) last outs (λ q has. low q (Has-from_filter (λ (p : Request). not (p.id == k)) q held has).0) t.2
    client id result (i, e)
accepted_low number held last (Busy c ∷ outs) low t client id result (zero, e) = absurd cc
accepted_low number held last (Busy c ∷ outs) low t client id result (suc i, e) =
    accepted_low number held last outs low t.1 client id result (i, e)
accepted_low number held last (_ ∷ outs) low t client id result h = absurd t

-- so nothing is kept for the next id
none_kept : (config : Configuration) (number : ℕ) (inputs : List Given) (a : Accept)
    → accepted_in (after (opening config number []) inputs).recent ((after (opening config number []) inputs).last_id + 1) ≡ Some a → ⊥
none_kept config number inputs a e =
    let start = opening config number [] in
    let its = recent_kept config number [] inputs ((after start inputs).last_id + 1) a e in
    let low = accepted_low number [] 0 (gave start inputs) (λ q h. absurd (Has-none q h)) (takes_turns config number [] inputs)
    number a.id a.result its.1.given in
    let count = last_counts config number [] inputs in
    let is = its.0 in
    omega (arith, low, count, is)

-- ---- a request alone

module _ (r : Request) (before : List Accept) where
  -- it is open and nothing was accepted, or none is open
  abbrev IsLone : ClientState → Type 0
  IsLone s = ((open_requests s ≡ r ∷ []) × (s.recent ≡ before)) ⊎ (open_requests s ≡ [])

  row_lone : (s : ClientState) (x : Given) → s.waiting ≡ [] → ((op : List ℕ) → x ≡ Submit op → ⊥) → IsLone s
      → (y : ClientState × List Out) → Row s x y → IsLone y.0
  row_lone s x none alone lone y (Rests nothing) = lone
  row_lone s x none alone lone y (SaysBusy op is busy) = lone
  row_lone s x none alone lone y (Opens op waiting may (inl (is, left))) =
      let both : [] ≡ op ∷ waiting = sym none ∙ left in
      absurd cc
  row_lone s x none alone lone y (Opens op waiting may (inr (is, same))) = absurd (alone op is)
  row_lone s x none alone lone y (Repeats is) = lone
  row_lone s x none alone lone y (Keeps p has e quorum) =
      let now = keeps s p (expected_is_open s p e) in
      elim lone [ inl h ↦ inl (now.requests ∙ h.0, now.recent ∙ h.1) | inr h ↦ inr (now.requests ∙ h) ]
  row_lone s x none alone lone y (Accepts p leaders has e quorum) =
      let is = expected_is_open s p e in
      let left : open_requests y.0 ≡ without (open_requests s) p.id =
      (closes (kept s p) p.id leaders).requests ∙ ap (λ (qs : List Request). without qs p.id) (keeps s p is).requests in
      elim lone [
        | inl h ↦
            let its : Holds (r ∷ []) p.id = subst (λ (qs : List Request). Holds qs p.id) h.0 (open_has s p.id is) in
            inr (left ∙ ap (λ (qs : List Request). without qs p.id) h.0 ∙ alone_left r p.id (alone_is r p.id its))
        | inr h ↦ inr (left ∙ ap (λ (qs : List Request). without qs p.id) h)
      ]

  lone_after : (xs : List Given) → AllOutside xs → (s : ClientState) → s.waiting ≡ [] → IsLone s → IsLone (after s xs)
  lone_after [] outside s none lone = lone
  lone_after (x ∷ xs) outside s none lone =
      let alone = no_op x xs outside in
      lone_after xs (others x xs outside) (next s x).0 (row_rests s x none alone (next s x) (row_of s x)).0
      (row_lone s x none alone lone (next s x) (row_of s x))

-- the next request is submitted where none is open, and accepted
none_left : (config : Configuration) (number : ℕ) (s : ClientState) (op : List ℕ) (xs : List Given) (a : Accept) → IsRun config number s
    → AllOutside xs → s.waiting ≡ [] → open_requests s ≡ []
    → accepted_in (after (submitted s (request_of s op)) xs).recent (s.last_id + 1) ≡ Some a
    → open_requests (after (submitted s (request_of s op)) xs) ≡ []
none_left config number s op xs a run outside none empty accepted =
    let r = request_of s op in
    let u = submitted s r in
    let opened : open_requests u ≡ r ∷ [] = (opens s r s.waiting).requests ∙ ap (λ (qs : List Request). qs ++ r ∷ []) empty in
    elim (lone_after r u.recent xs outside u none (inl (opened, refl))) [
      | inl h ↦
          let id = s.last_id + 1 in
          let found = Has-from_find (λ (b : Accept). b.id == id) u.recent a (ap (λ (accepts : List Accept). accepted_in accepts id) (sym h.1) ∙ accepted) in
          let old = Has-from_filter (λ (b : Accept). nat_lt id (b.id + WINDOW)) a s.recent found.0 in
          let its = find-some (λ (b : Accept). b.id == id) s.recent a old.0 found.1 in
          absurd (none_kept config number run.inputs its.0
          (subst (λ (t : ClientState). accepted_in t.recent (t.last_id + 1) ≡ Some its.0) run.is its.1))
      | inr h ↦ h
    ]

module _ (at : Address) (s t : SessionState) (op : List ℕ) (h i : Option (List ℕ)) (run : IsRun s.config s.number s.client.requests)
    (took : TookSome sessions.next (step_effects false at) (first_inputs (first_of (awaiting s).awaited op)) (awaiting s) t h i) where
  left_by : (accept : Accept) (o : Option Accept) → acceptance t ≡ o → GivesAccepted o (Ok accept) → HasNoneOpen s → HasNoneOpen t
  left_by accept None is gives empty = absurd gives
  left_by accept (Some a) is gives empty =
      let u = submitted s.client.requests (request_of s.client.requests op) in
      let may = had_room at s t op h i run took accept (can_submit s.client.requests) refl (Some a) is gives in
      let now = begun at s t op h i run took may in
      let id = s.client.requests.last_id + 1 in
      let kept_for_it : accepted_in (after u took.inputs).recent id ≡ Some a =
      ap (λ (v : ClientState). accepted_in v.recent id) (sym now) ∙ sym (acceptance_next at s t op h i run took may) ∙ is in
      now_open_by now (none_left s.config s.number s.client.requests op took.inputs a run took.outside (waits_none at s t op h i run took) empty
      kept_for_it)
    where
      now_open_by : {u v : ClientState} → u ≡ v → open_requests v ≡ [] → open_requests u ≡ []
      now_open_by same none = ap open_requests same ∙ none

  pub none_open : (result : Result Accept CallError) → GivesAccepted (acceptance t) result → OnOk result (HasNoneOpen s → HasNoneOpen t)
  none_open (Ok accept) gives = left_by accept (acceptance t) refl gives
  none_open (Err e) gives = tt
