-- The client of a session: from the inputs that it took to what it answers.
use Rattle.std.proofs.Common.{◌≡◌, ℕ, ◌+◌, Bool, true, false, Option, Some, None, refl, sym, ap, subst, ◌∙◌, inl, inr}
use Rattle.std.proofs.Common.{List, [], ◌∷◌, ◌++◌, append_assoc, arith}
use Rattle.std.specs.Prelude.{Result, Ok, Err, OnOk, cond, is_err, length, map, option_and_then}
use Rattle.nop_types.specs.Configuration.{Configuration}
use Rattle.nop_types.specs.Given.{Given, Packet, Ticked, Submit, Read}
use Rattle.nop_types.specs.Lists.{Has}
use Rattle.nop_types.specs.declared.output.Accept.{Accept}
use Rattle.nop_types.specs.declared.output.Out.{Out}
use Rattle.nop_types.specs.declared.output.Out.TheVariants.{Submitted, Accepted}
use Rattle.nop_types.specs.declared.request.Request.{Request}
use Rattle.lemmas.proofs.Members.{Has-append_right, Has-first}
use Rattle.client_quorum.specs.ClientSteps.{begin, can_submit, next, opening, request_of, sent, submitted}
use Rattle.client_quorum.specs.Core as client
use Rattle.client_quorum.specs.Core.{Client}
use Rattle.client_quorum.specs.OpenRequests.{open_requests}
use Rattle.client_quorum.specs.Opens.{accepted_in}
use Rattle.client_quorum.specs.Rows.{Row, Rests, SaysBusy, Opens, Repeats, Keeps, Accepts}
use Rattle.client_quorum.specs.Runs.{after, gave, ops_of, replies_of, IsAgreed}
use Rattle.client_quorum.specs.declared.state.ClientState.{ClientState}
use Rattle.client_quorum.proofs.Recents.{recent_kept}
use Rattle.client_quorum.proofs.RowLemmas.{row_of}
use Rattle.client_quorum.proofs.Waits.{waiting_ends}
use Rattle.udp_node.specs.Effects.{step_effects}
use Rattle.udp_node.specs.Folding.{folded, AllOutside, TookSome}
use Rattle.udp_node.specs.NodeRun.{first_inputs}
use Rattle.udp_node.specs.declared.address.Address.{Address}
use Rattle.client_call.specs.Calls.{GivesAccepted}
use Rattle.client_call.specs.Sessions as sessions
use Rattle.client_call.specs.Sessions.{AnswersOp, GoesOn, IsAnswered, IsLeftOpen, IsRun, SessionState, Submits, acceptance, awaiting, first_of, last_id}
use Rattle.client_call.specs.declared.errors.CallError.{CallError}
use Rattle.client_call.specs.declared.errors.CallError.TheVariants.{Unanswered}

-- ---- runs, one behind another

after_append : (s : ClientState) (xs ys : List Given) → after s (xs ++ ys) ≡ after (after s xs) ys
after_append s [] ys = refl
after_append s (x ∷ xs) ys = after_append (next s x).0 xs ys

gave_append : (s : ClientState) (xs ys : List Given) → gave s (xs ++ ys) ≡ gave s xs ++ gave (after s xs) ys
gave_append s [] ys = refl
gave_append s (x ∷ xs) ys =
    ap (λ (os : List Out). (next s x).1 ++ os) (gave_append (next s x).0 xs ys)
    ∙ sym (append_assoc (next s x).1 (gave (next s x).0 xs) (gave (after (next s x).0 xs) ys))

pub run_opens : (config : Configuration) (number : ℕ) → IsRun config number (opening config number [])
run_opens config number = record { inputs = []; is = refl }

pub run_steps : (config : Configuration) (number : ℕ) (s : ClientState) (x : Given) → IsRun config number s
    → IsRun config number (next s x).0
run_steps config number s x run = record {
  inputs = run.inputs ++ x ∷ [];
  is =
      ap (λ (u : ClientState). (next u x).0) run.is
      ∙ sym (after_append (opening config number []) run.inputs (x ∷ []));
}

-- a step that was taken
pub run_stepped : {T E : Type 0} (config : Configuration) (number : ℕ) (c d : Client) (x : Given) (result : Result T E)
    → IsRun config number c.requests → OnOk result (d ≡ (client.next c x).0) → is_err result ≡ false → IsRun config number d.requests
run_stepped config number c d x (Ok t) run is ok =
    subst (λ (e : Client). IsRun config number e.requests) (sym is) (run_steps config number c.requests x run)
run_stepped config number c d x (Err e) run is ok = absurd cc

-- ---- what stays

row_number : (s : ClientState) (x : Given) (y : ClientState × List Out) → Row s x y → y.0.number ≡ s.number
row_number s x y (Rests nothing) = refl
row_number s x y (SaysBusy op is busy) = refl
row_number s x y (Opens op waiting may from) = refl
row_number s x y (Repeats is) = refl
row_number s x y (Keeps p has e quorum) = refl
row_number s x y (Accepts p leaders has e quorum) = refl

number_after : (xs : List Given) (s : ClientState) → (after s xs).number ≡ s.number
number_after [] s = refl
number_after (x ∷ xs) s = number_after xs (next s x).0 ∙ row_number s x (next s x) (row_of s x)

ops_append : (xs ys : List Out) → ops_of (xs ++ ys) ≡ ops_of xs ++ ops_of ys
ops_append [] ys = refl
ops_append (Submitted r ∷ xs) ys = ap (λ (l : List (List ℕ)). r.op ∷ l) (ops_append xs ys)
ops_append (_ ∷ xs) ys = ops_append xs ys

sent_ops : (qs : List Request) → ops_of (map sent qs) ≡ []
sent_ops [] = refl
sent_ops (q ∷ qs) = sent_ops qs

-- where no op waits and none comes, none is submitted
pub row_rests : (s : ClientState) (x : Given) → s.waiting ≡ [] → ((op : List ℕ) → x ≡ Submit op → ⊥) → (y : ClientState × List Out)
    → Row s x y → (y.0.waiting ≡ []) × (y.0.last_id ≡ s.last_id) × (ops_of y.1 ≡ [])
row_rests s x none alone y (Rests nothing) = (none, refl, refl)
row_rests s x none alone y (SaysBusy op is busy) = (none, refl, refl)
row_rests s x none alone y (Opens op waiting may (inl (is, left))) =
    let both : [] ≡ op ∷ waiting = sym none ∙ left in
    absurd cc
row_rests s x none alone y (Opens op waiting may (inr (is, same))) = absurd (alone op is)
row_rests s x none alone y (Repeats is) = (none, refl, sent_ops (open_requests s))
row_rests s x none alone y (Keeps p has e quorum) = (none, refl, refl)
row_rests s x none alone y (Accepts p leaders has e quorum) = (none, refl, refl)

pub no_op : (x : Given) (xs : List Given) → AllOutside (x ∷ xs) → (op : List ℕ) → x ≡ Submit op → ⊥
no_op (Packet bytes) xs outside op e = cc
no_op (Ticked tick) xs outside op e = cc
no_op _ xs outside op e = outside

pub others : (x : Given) (xs : List Given) → AllOutside (x ∷ xs) → AllOutside xs
others (Packet bytes) xs outside = outside
others (Ticked tick) xs outside = outside
others _ xs outside = absurd outside

last_stays : (xs : List Given) → AllOutside xs → (s : ClientState) → s.waiting ≡ [] → (after s xs).last_id ≡ s.last_id
last_stays [] outside s none = refl
last_stays (x ∷ xs) outside s none =
    let rests = row_rests s x none (no_op x xs outside) (next s x) (row_of s x) in
    last_stays xs (others x xs outside) (next s x).0 rests.0 ∙ rests.1

none_both : (xs ys : List (List ℕ)) → xs ≡ [] → ys ≡ [] → xs ++ ys ≡ []
none_both xs ys e f = rw (e, f) refl

none_submitted : (xs : List Given) → AllOutside xs → (s : ClientState) → s.waiting ≡ [] → ops_of (gave s xs) ≡ []
none_submitted [] outside s none = refl
none_submitted (x ∷ xs) outside s none =
    let rests = row_rests s x none (no_op x xs outside) (next s x) (row_of s x) in
    let rest = none_submitted xs (others x xs outside) (next s x).0 rests.0 in
    ops_append (next s x).1 (gave (next s x).0 xs)
    ∙ none_both (ops_of (next s x).1) (ops_of (gave (next s x).0 xs)) rests.2 rest

no_more : (prefix waiting : List (List ℕ)) → [] ≡ prefix ++ waiting → waiting ≡ []
no_more [] waiting e = sym e
no_more (op ∷ prefix) waiting e = absurd cc

none_waits : (config : Configuration) (number : ℕ) (s : ClientState) → IsRun config number s → s.waiting ≡ []
none_waits config number s run =
    let ends = waiting_ends config number [] run.inputs in
    ap (λ (u : ClientState). u.waiting) run.is ∙ no_more ends.0 (after (opening config number []) run.inputs).waiting ends.1

-- ---- an op is submitted

submits : (s : ClientState) (op : List ℕ) → can_submit s ≡ true → next s (Submit op) ≡ begin s (request_of s op)
unfolding next
submits s op may = rw may refl

-- ---- the core of a session

requests_after : (c : Client) (xs : List Given) → (client.after c xs).requests ≡ after c.requests xs
requests_after c [] = refl
requests_after c (x ∷ xs) = requests_after (client.next c x).0 xs

client_after : (s : SessionState) (xs : List Given) → (folded sessions.next s xs).0 ≡ record s { client = client.after s.client xs }
client_after s [] = refl
client_after s (x ∷ xs) = client_after (sessions.next s x).0 xs

module _ (at : Address) (s t : SessionState) (op : List ℕ) (h i : Option (List ℕ)) (run : IsRun s.config s.number s.client.requests)
    (took : TookSome sessions.next (step_effects false at) (first_inputs (first_of (awaiting s).awaited op)) (awaiting s) t h i) where
  abbrev first : List Given
  first = first_inputs (first_of (awaiting s).awaited op)

  first_submits : can_submit s.client.requests ≡ true → first ≡ Submit op ∷ []
  first_submits may = rw may refl

  first_rests : can_submit s.client.requests ≡ false → first ≡ []
  first_rests may = rw may refl

  state_after : t ≡ record (awaiting s) { client = client.after s.client (first ++ took.inputs) }
  state_after = took.state ∙ client_after (awaiting s) (first ++ took.inputs)

  its_requests : t.client.requests ≡ after s.client.requests (first ++ took.inputs)
  its_requests = ap (λ (u : SessionState). u.client.requests) state_after ∙ requests_after s.client (first ++ took.inputs)

  with_first : (xs : List Given) → first ≡ xs → t.client.requests ≡ after s.client.requests (xs ++ took.inputs)
  with_first xs is = its_requests ∙ ap (λ (ys : List Given). after s.client.requests (ys ++ took.inputs)) is

  -- with the op, its request is open from the first step on
  pub begun : can_submit s.client.requests ≡ true
      → t.client.requests ≡ after (submitted s.client.requests (request_of s.client.requests op)) took.inputs
  begun may =
      with_first (Submit op ∷ []) (first_submits may)
      ∙ ap (λ (y : ClientState × List Out). after y.0 took.inputs) (submits s.client.requests op may)

  pub waits_none : s.client.requests.waiting ≡ []
  waits_none = none_waits s.config s.number s.client.requests run

  -- with the op, the last id is the next one
  last_after : (b : Bool) → can_submit s.client.requests ≡ b → last_id t ≡ cond b (last_id s + 1) (last_id s)
  last_after true may =
      ap (λ (u : ClientState). u.last_id) (begun may)
      ∙ last_stays took.inputs took.outside (submitted s.client.requests (request_of s.client.requests op)) waits_none
  last_after false may =
      ap (λ (u : ClientState). u.last_id) (with_first [] (first_rests may))
      ∙ last_stays took.inputs took.outside s.client.requests waits_none

  its_config : t.config ≡ s.config
  its_config = ap (λ (u : SessionState). u.config) state_after

  its_number_after : t.number ≡ s.number
  its_number_after = ap (λ (u : SessionState). u.number) state_after

  submits_by : (b : Bool) → can_submit s.client.requests ≡ b → Submits s t (cond b (op ∷ []) [])
  submits_by true may =
      let r = request_of s.client.requests op in
      record {
        config = its_config;
        number = its_number_after;
        inputs = Submit op ∷ took.inputs;
        requests = with_first (Submit op ∷ []) (first_submits may);
        submitted =
            ap (λ (y : ClientState × List Out). ops_of (y.1 ++ gave y.0 took.inputs)) (submits s.client.requests op may)
            ∙ ap (λ (ops : List (List ℕ)). op ∷ ops)
            (none_submitted took.inputs took.outside (submitted s.client.requests r) waits_none);
        last_id = last_after true may;
      }
  submits_by false may =
      let same = last_after false may in
      record {
        config = its_config;
        number = its_number_after;
        inputs = took.inputs;
        requests = with_first [] (first_rests may);
        submitted = none_submitted took.inputs took.outside s.client.requests waits_none;
        last_id = omega (arith, same);
      }

  submits_op : Submits s t (cond (can_submit s.client.requests) (op ∷ []) [])
  submits_op = submits_by (can_submit s.client.requests) refl

  -- ---- the answer

  its_awaited : t.awaited ≡ (awaiting s).awaited
  its_awaited = ap (λ (u : SessionState). u.awaited) state_after

  abbrev accepted_for : Option ℕ → Option Accept
  accepted_for awaited = option_and_then (accepted_in t.client.requests.recent) awaited

  acceptance_awaited : acceptance t ≡ accepted_for (awaiting s).awaited
  acceptance_awaited = ap accepted_for its_awaited

  acceptance_none : can_submit s.client.requests ≡ false → acceptance t ≡ None
  acceptance_none may = acceptance_awaited ∙ (rw may refl)

  pub acceptance_next : can_submit s.client.requests ≡ true → acceptance t ≡ accepted_in t.client.requests.recent (last_id s + 1)
  acceptance_next may = acceptance_awaited ∙ (rw may refl)

  abbrev whole : List Given
  whole = run.inputs ++ Submit op ∷ took.inputs

  abbrev start : ClientState
  start = opening s.config s.number []

  whole_run : can_submit s.client.requests ≡ true → t.client.requests ≡ after start whole
  whole_run may =
      with_first (Submit op ∷ []) (first_submits may)
      ∙ ap (λ (u : ClientState). after u (Submit op ∷ took.inputs)) run.is
      ∙ sym (after_append start run.inputs (Submit op ∷ took.inputs))

  its_number : s.client.requests.number ≡ s.number
  its_number = ap (λ (u : ClientState). u.number) run.is ∙ number_after run.inputs start

  its_request : request_of s.client.requests op ≡ record { client = s.number; id = last_id s + 1; op = op }
  its_request = rw its_number refl

  submits_it : can_submit s.client.requests ≡ true
      → Has (gave s.client.requests (Submit op ∷ took.inputs)) (Submitted (record { client = s.number; id = last_id s + 1; op = op }))
  submits_it may =
      let r = request_of s.client.requests op in
      let begun = submits s.client.requests op may in
      subst (λ (y : ClientState × List Out). Has (y.1 ++ gave y.0 took.inputs) (Submitted (record { client = s.number; id = last_id s + 1; op = op })))
      (sym begun)
      (Has-first (Submitted (record { client = s.number; id = last_id s + 1; op = op })) (Submitted r)
      (sent r ∷ gave (submitted s.client.requests r) took.inputs) (ap Submitted (sym its_request)))

  was_submitted : can_submit s.client.requests ≡ true
      → Has (gave start whole) (Submitted (record { client = s.number; id = last_id s + 1; op = op }))
  was_submitted may =
      let out : Out = Submitted (record { client = s.number; id = last_id s + 1; op = op }) in
      let later : Has (gave (after start run.inputs) (Submit op ∷ took.inputs)) out =
      subst (λ (u : ClientState). Has (gave u (Submit op ∷ took.inputs)) out) run.is (submits_it may) in
      subst (λ (outs : List Out). Has outs out) (sym (gave_append start run.inputs (Submit op ∷ took.inputs)))
      (Has-append_right (gave start run.inputs) (gave (after start run.inputs) (Submit op ∷ took.inputs)) out later)

  is_answered : can_submit s.client.requests ≡ true → (accept : Accept) → acceptance t ≡ Some accept
      → IsAnswered s.config s.number (last_id s + 1) op accept
  is_answered may accept is =
      let id = last_id s + 1 in
      let kept : accepted_in (after start whole).recent id ≡ Some accept =
      ap (λ (u : ClientState). accepted_in u.recent id) (sym (whole_run may)) ∙ sym (acceptance_next may) ∙ is in
      let known = recent_kept s.config s.number [] whole id accept kept in
      let its = subst (λ (k : ℕ). (g : IsAgreed s.config.replicas (replies_of whole) s.number k accept.result) × (g.slot ≡ accept.slot))
      known.0 (known.1.agreed, known.1.at_slot) in
      record {
        of_id = known.0;
        inputs = whole;
        submitted = was_submitted may;
        accepted = subst (λ (k : ℕ). Has (gave start whole) (Accepted s.number k accept.result)) known.0 known.1.given;
        kept = kept;
        agreed = its.0;
        at_slot = its.1;
      }

  -- what is accepted had room
  pub had_room : (accept : Accept) (b : Bool) → can_submit s.client.requests ≡ b → (o : Option Accept) → acceptance t ≡ o
      → GivesAccepted o (Ok accept) → can_submit s.client.requests ≡ true
  had_room accept b may None is gives = absurd gives
  had_room accept true may (Some a) is gives = may
  had_room accept false may (Some a) is gives =
      let both : None ≡ Some a = sym (acceptance_none may) ∙ is in
      absurd cc

  left_open : (o : Option Accept) → acceptance t ≡ o → GivesAccepted o (Err Unanswered) → IsLeftOpen s t
  left_open None is gives = λ may. sym (acceptance_next may) ∙ is
  left_open (Some a) is gives = absurd gives

  pub goes_on : (result : Result Accept CallError) → GivesAccepted (acceptance t) result → GoesOn s t op result
  goes_on (Ok accept) gives =
      submits_by true (had_room accept (can_submit s.client.requests) refl (acceptance t) refl gives)
  goes_on (Err Unanswered) gives = (submits_op, left_open (acceptance t) refl gives)
  goes_on _ gives = tt

  answered_by : (accept : Accept) (b : Bool) → can_submit s.client.requests ≡ b → (o : Option Accept) → acceptance t ≡ o
      → GivesAccepted o (Ok accept) → IsAnswered s.config s.number (last_id s + 1) op accept
  answered_by accept b may None is gives = absurd gives
  answered_by accept true may (Some a) is gives = is_answered may accept (is ∙ ap Some (sym gives))
  answered_by accept false may (Some a) is gives =
      let both : None ≡ Some a = sym (acceptance_none may) ∙ is in
      absurd cc

  pub answers_op : (result : Result Accept CallError) → GivesAccepted (acceptance t) result → AnswersOp s op result
  answers_op (Ok accept) gives = answered_by accept (can_submit s.client.requests) refl (acceptance t) refl gives
  answers_op _ gives = tt
