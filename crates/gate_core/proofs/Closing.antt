-- Once a connection is ended, its user is replied nothing.
use Rattle.std.proofs.Common.{◌≡◌, ℕ, ◌+◌, length, Bool, true, false, cond, List, [], ◌∷◌, ◌++◌, Option, Some, None, refl, sym, ap, subst, ◌∙◌, inl, inr}
use Rattle.std.specs.Prelude.{nat_le, nat_lt, Ok, Err}
use Rattle.std.specs.FinMap as finite
use Rattle.std.proofs.lemmas.Bool.{cases_Bool}
use Rattle.nop_types.specs.Given as given
use Rattle.nop_types.specs.Given.{Given, Packet, Ticked}
use Rattle.nop_types.specs.Lists.{Has}
use Rattle.nop_types.specs.declared.input.Tick.TheVariants as ticks
use Rattle.nop_types.specs.declared.output.Out.{Out}
use Rattle.nop_types.specs.declared.output.Out.TheVariants as outs
use Rattle.lemmas.proofs.Members.{Has-append_cases, Has-cases, Has-none, Has-one}
use Rattle.resp.specs.Reading.{Read, read_request}
use Rattle.resp.specs.declared.parsed.Stop.TheVariants.{More, Wrong}
use Rattle.kv_resp.specs.Table as table
use Rattle.kv_resp.specs.Table.{Action, asked}
use Rattle.kv_resp.specs.declared.demand.Form.{Form}
use Rattle.desk.specs.Desks as desks
use Rattle.desk.specs.Desks.{has_room, Take, Comes}
use Rattle.desk.specs.declared.submitter.Labelled.{Labelled}
use Rattle.users.specs.declared.event.UserEvent.TheVariants as users
use Rattle.gate_core.specs.declared.act.Act.{Act}
use Rattle.gate_core.specs.declared.act.Act.TheVariants.{Accepted, Answered, Reading, Reply, Close, Waits}
use Rattle.gate_core.specs.declared.act.Event.{Event}
use Rattle.gate_core.specs.declared.act.Event.TheVariants as events
use Rattle.gate_core.specs.declared.gate_state.GateState.{GateState}
use Rattle.gate_core.specs.declared.near.NearAnswer.{NearAnswer}
use Rattle.gate_core.specs.declared.session.InFlight.{InFlight}
use Rattle.gate_core.specs.declared.session.InFlight.TheVariants as flight
use Rattle.gate_core.specs.declared.session.UnderWay.{UnderWay}
use Rattle.gate_core.specs.declared.session.Session.{Session}
use Rattle.gate_core.specs.declared.limits.TheConstants.{MAX_USERS, MAX_WAITING_BYTES}
use Rattle.gate_core.specs.Gates.{admitted, answer_owner, answer_user, answered_if, ask_for, ask_free, ask_with, awaits, busy, came_of, comes, demanded, end_read, ended, executed, fresh, fresh_if, idle_op, is_new, key_to_ask, left_by, left_of, looked, near_replied, near_user, next, no_observers, no_request, quiet, read_answer_if, read_as, read_asked, read_from, read_user, reads_at, reads_by, reassign_reader, reassign_user, read_of, read_session, replied, sent_to, session_of, slot_in, take, taken_if, tell, tell_all, tell_out, too_many, too_much, with_desk, unread, with_owner, with_reader, with_session, without_owner, without_reader, without_session, info}
use Rattle.gate_core.specs.Runs.{after, gave, replies_to}
use Rattle.gate_core.proofs.Answering.{replies_append}
use Rattle.gate_core.proofs.Entries.{gone_here}
use Rattle.gate_core.proofs.Numbers.{IsAbsent, absent_step, passed_step}
use Rattle.gate_core.proofs.Served.{just_passed}
use Rattle.gate_core.proofs.Silence.{IsNoOpening, row_silent}

module _ (user : ℕ) where
  -- it is not connected, and will not be
  pub record IsGone (g : GateState) : Type 0 where
    pub none : session_of g user ≡ None
    pub old : is_new g user ≡ false

  -- ---- nothing is replied to it any more

  no_opening : (g : GateState) (e : Event) → is_new g user ≡ false → IsNoOpening user g e
  no_opening g (events.User (users.Opened other)) old = λ same. old
  no_opening g _ old = tt

  gone_step : (g : GateState) (e : Event) → IsGone g → IsGone (next g e).0
  gone_step g e h = record { none = (row_silent user g h.none e (no_opening g e h.old)).gone; old = passed_step user g e h.old }

  pub gone_silent : (es : List Event) (g : GateState) → IsGone g → replies_to user (gave g es) ≡ []
  gone_silent [] g h = refl
  gone_silent (e ∷ es) g h =
      replies_append user (next g e).1 (gave (next g e).0 es)
      ∙ ap (λ (rs : List (List ℕ)). rs ++ replies_to user (gave (next g e).0 es)) (row_silent user g h.none e (no_opening g e h.old)).none
      ∙ gone_silent es (next g e).0 (gone_step g e h)

  gone_after : (es : List Event) (g : GateState) → IsGone g → IsGone (after g es)
  gone_after [] g h = h
  gone_after (e ∷ es) g h = gone_after es (next g e).0 (gone_step g e h)

  -- ---- who ends connections

  abbrev pub NoClose : List Act → Type 0
  NoClose acts = Has acts (Close user) → ⊥

  none_closes : NoClose []
  none_closes h = Has-none (Close user) h

  session_closes : (other slot : ℕ) (s : Session) (result : List ℕ) (b : Bool) → NoClose (answered_if b other slot s result).1
  session_closes other slot s result true h = absurd (let e : Close user ≡ Reply other _ = Has-one (Close user) _ h in cc)
  session_closes other slot s result false h = none_closes h

  user_closes : (o : Option Session) (g : GateState) (other slot ticket : ℕ) (result : List ℕ) → NoClose (answer_user o g other slot ticket result).1
  user_closes None g other slot ticket result h = none_closes h
  user_closes (Some s) g other slot ticket result h = session_closes other slot s result (awaits s.asked ticket) h

  owner_closes : (o : Option (Option ℕ)) (g : GateState) (slot ticket : ℕ) (result : List ℕ) → NoClose (answer_owner o g slot ticket result).1
  owner_closes (Some (Some other)) g slot ticket result h = user_closes (session_of g other) g other slot ticket result h
  owner_closes (Some None) g slot ticket result h = none_closes h
  owner_closes None g slot ticket result h = none_closes h

  one_closes : (a : Act) → (Close user ≡ a → ⊥) → NoClose (a ∷ [])
  one_closes a d h = d (Has-one (Close user) a h)

  after_closes : (a : Act) (acts : List Act) → (Close user ≡ a → ⊥) → NoClose acts → NoClose (a ∷ acts)
  after_closes a acts c d h = elim (Has-cases (Close user) a acts h) [
    | inl e ↦ c e
    | inr k ↦ d k
  ]

  fresh_closes : (other position : ℕ) (s : Session) (result : List ℕ) (b : Bool) → NoClose (fresh_if b other position s result).1
  fresh_closes other position s result true h = one_closes _ (λ e. absurd cc) h
  fresh_closes other position s result false h = one_closes _ (λ e. absurd cc) h

  read_closes_if : (other position : ℕ) (s : Session) (result : List ℕ) (b : Bool) → NoClose (read_answer_if b other position s result).1
  read_closes_if other position s result true h = fresh_closes other position s result (nat_le s.seen position) h
  read_closes_if other position s result false h = none_closes h

  read_user_closes : (o : Option Session) (g : GateState) (other position : ℕ) (way : UnderWay) (result : List ℕ)
      → NoClose (read_user o g other position way result).1
  read_user_closes None g other position way result h = none_closes h
  read_user_closes (Some s) g other position way result h = read_closes_if other position s result (reads_by s.asked way) h

  end_closes : (o : Option ℕ) (g : GateState) (position : ℕ) (way : UnderWay) (result : List ℕ) → NoClose (end_read o g position way result).1
  end_closes None g position way result h = none_closes h
  end_closes (Some other) g position way result h = read_user_closes (session_of g other) g other position way result h

  out_closes : (came : List ℕ) (core : ℕ) (ticket : Option ℕ) (out : Out) (g : GateState) → NoClose (tell_out came core ticket out g).1
  out_closes came core ticket (outs.Send dest sent) g h = one_closes _ (λ e. absurd cc) h
  out_closes came core ticket (outs.Submitted request) g h = one_closes _ (λ e. absurd cc) h
  out_closes came core None (outs.Accepted client id result) g h = after_closes (Accepted core id) [] (λ e. absurd cc) none_closes h
  out_closes came core (Some t) (outs.Accepted client id result) g h =
      after_closes (Accepted core id) (answer_owner (finite.get g.owners t) (without_owner g t) (slot_in came) t result).1 (λ e. absurd cc)
      (owner_closes (finite.get g.owners t) (without_owner g t) (slot_in came) t result) h
  out_closes came core ticket (outs.Reading client id observer key) g h = one_closes (Reading core id) (λ e. absurd cc) h
  out_closes came core ticket (outs.Answered client id observer position result) g h =
      let way : UnderWay = record { core = core; id = id; observer = observer } in
      after_closes (Answered core id) (end_read (finite.get g.readers core) (without_reader g core) position way result).1 (λ e. absurd cc)
      (end_closes (finite.get g.readers core) (without_reader g core) position way result) h
  out_closes came core ticket _ g h = none_closes h

  tell_closes : (came : List ℕ) (ls : List Labelled) (g : GateState) → NoClose (tell_all came ls g).1
  tell_closes came [] g h = none_closes h
  tell_closes came (l ∷ ls) g h = elim (Has-append_cases (tell came l g).1 (tell_all came ls (tell came l g).0).1 (Close user) h) [
    | inl k ↦ out_closes came l.core l.ticket l.out g k
    | inr k ↦ tell_closes came ls (tell came l g).0 k
  ]

  take_closes : (g : GateState) (owner : Option ℕ) (op : List ℕ) → NoClose (take g owner op).1
  take_closes g owner op h =
      tell_closes [] (desks.next g.desk.state (Take op)).1 (with_owner (with_desk g (desks.next g.desk.state (Take op)).0) g.desk.state.taken owner) h

  comes_closes : (g : GateState) (core : ℕ) (x : Given) → NoClose (comes g core x).1
  comes_closes g core x h = tell_closes (came_of x) (desks.next g.desk.state (Comes core x)).1 (with_desk g (desks.next g.desk.state (Comes core x)).0) h

  -- where it is ended it is gone
  abbrev pub Closes : (GateState × List Act) → Type 0
  Closes p = Has p.1 (Close user) → IsGone p.0

  never : (p : GateState × List Act) → NoClose p.1 → Closes p
  never p d h = absurd (d h)

  which : (other : ℕ) (bytes : List ℕ) → Has (Reply other bytes ∷ Close other ∷ []) (Close user) → user ≡ other
  which other bytes h = elim (Has-cases (Close user) (Reply other bytes) (Close other ∷ []) h) [
    | inl e ↦ absurd cc
    | inr k ↦ let e : Close user ≡ Close other = Has-one (Close user) (Close other) k in cc
  ]

  ended_closes : (g : GateState) (other : ℕ) (bytes : List ℕ) → (user ≡ other → is_new g user ≡ false) → Closes (ended g other bytes)
  ended_closes g other bytes old h =
      let same = which other bytes h in
      record {
        none = subst (λ (v : ℕ). session_of (without_session g v) user ≡ None) same (gone_here g.sessions user);
        old = old same;
      }

  reply_closes : (g : GateState) (other : ℕ) (s : Session) (bytes : List ℕ) → Closes (replied g other s bytes)
  reply_closes g other s bytes = never (replied g other s bytes) (one_closes (Reply other bytes) (λ e. absurd cc))

  op_closes : (g : GateState) (other : ℕ) (s : Session) (op : List ℕ) (form : Form) (b : Bool)
      → Closes (cond b (executed g other s op form) (replied g other s busy))
  op_closes g other s op form true =
      let in_flight : Session = record s { asked = Some (flight.Op (record { ticket = g.desk.state.taken; form = form })) } in
      never (executed g other s op form) (take_closes (with_session g other in_flight) (Some other) op)
  op_closes g other s op form false = reply_closes g other s busy

  waits_closes : (g : GateState) (other : ℕ) (s : Session) → Closes (with_session g other s, Waits other false ∷ [])
  waits_closes g other s = never (with_session g other s, Waits other false ∷ []) (one_closes (Waits other false) (λ e. absurd cc))

  read_at_closes : (g : GateState) (other : ℕ) (s : Session) (key : List ℕ) (b : Bool)
      → Closes (cond b (read_asked g other s key) (replied g other s no_observers))
  read_at_closes g other s key true = waits_closes g other (record s { asked = Some (flight.Read (record { key = key; under_way = None })) })
  read_at_closes g other s key false = reply_closes g other s no_observers

  near_closes : (a : NearAnswer) (g : GateState) (other : ℕ) (s : Session) → Closes (near_replied a g other s)
  near_closes a g other s = never (near_replied a g other s) (fresh_closes other a.position s a.result (nat_le s.seen a.position))

  read_from_closes : (o : Option NearAnswer) (g : GateState) (other : ℕ) (s : Session) (key : List ℕ) → Closes (read_from o g other s key)
  read_from_closes None g other s key = read_at_closes g other s key (nat_lt 0 g.observers)
  read_from_closes (Some a) g other s key = near_closes a g other (record s { asked = Some (flight.Read (record { key = key; under_way = None })) })

  demand_closes : (g : GateState) (other : ℕ) (s : Session) (action : Action) → (user ≡ other → is_new g user ≡ false)
      → Closes (demanded g other s action)
  demand_closes g other s (table.Execute op form) old = op_closes g other s op form (has_room g.desk.state)
  demand_closes g other s (table.ReadAt key) old = read_from_closes (looked g.near key) g other s key
  demand_closes g other s table.Info old = reply_closes g other s (info g.watch)
  demand_closes g other s (table.Answer bytes) old = reply_closes g other s bytes
  demand_closes g other s (table.End bytes) old = ended_closes g other bytes old

  as_closes : (g : GateState) (other : ℕ) (s : Session) (r : Read (List (List ℕ))) → (user ≡ other → is_new g user ≡ false)
      → Closes (read_as g other s r)
  as_closes g other s (Ok p) old = demand_closes g other (record s { waiting = p.1 }) (asked p.0) old
  as_closes g other s (Err More) old = never (quiet g) none_closes
  as_closes g other s (Err (Wrong fault)) old = ended_closes g other no_request old

  session_read_closes : (g : GateState) (other : ℕ) (s : Session) (o : Option InFlight) → (user ≡ other → is_new g user ≡ false)
      → Closes (read_session g other s o)
  session_read_closes g other s None old = as_closes g other s (read_request s.waiting) old
  session_read_closes g other s (Some a) old = never (quiet g) none_closes

  -- who has a session is known
  known : (g : GateState) → IsAbsent user g → (s : Session) → session_of g user ≡ Some s → is_new g user ≡ false
  known g h s is = elim (cases_Bool (is_new g user)) [
    | inl new ↦ absurd (let e : Some s ≡ None = sym is ∙ h new in cc)
    | inr old ↦ old
  ]

  known_at : (g : GateState) → IsAbsent user g → (other : ℕ) (s : Session) → session_of g other ≡ Some s → user ≡ other → is_new g user ≡ false
  known_at g h other s is same = known g h s (ap (session_of g) same ∙ is)

  read_closes : (g : GateState) → IsAbsent user g → (other : ℕ) (o : Option Session) → session_of g other ≡ o → Closes (read_of o g other)
  read_closes g h other None is = never (quiet g) none_closes
  read_closes g h other (Some s) is = session_read_closes g other s s.asked (known_at g h other s is)

  left_new : (a : Option InFlight) (g : GateState) → is_new (left_by a g) user ≡ is_new g user
  left_new None g = refl
  left_new (Some (flight.Op a)) g = refl
  left_new (Some (flight.Read r)) g = refl

  sent_closes : (g : GateState) → IsAbsent user g → (other : ℕ) (o : Option Session) (bytes : List ℕ) → session_of g other ≡ o
      → Closes (sent_to o g other bytes)
  sent_closes g h other None bytes is = never (quiet g) none_closes
  sent_closes g h other (Some s) bytes is = by_room (nat_lt MAX_WAITING_BYTES (length s.waiting + length bytes))
    where
      by_room : (b : Bool) → Closes (cond b (ended (left_by s.asked g) other too_much)
          (quiet (with_session g other (record s { waiting = s.waiting ++ bytes }))))
      by_room true = ended_closes (left_by s.asked g) other too_much (λ same. left_new s.asked g ∙ known_at g h other s is same)
      by_room false = never (quiet (with_session g other (record s { waiting = s.waiting ++ bytes }))) none_closes

  left_closes : (g : GateState) (other : ℕ) (o : Option Session) → Closes (left_of o g other)
  left_closes g other None = never (quiet g) none_closes
  left_closes g other (Some s) = never (left_of (Some s) g other) none_closes

  -- who is refused was not there
  opened_closes : (g : GateState) → IsAbsent user g → (other : ℕ) (b : Bool) → is_new g other ≡ b
      → Closes (cond b (admitted (record g { next_user = other + 1 }) other) (quiet g))
  opened_closes g h other false new = never (quiet g) none_closes
  opened_closes g h other true new = by_room (nat_le MAX_USERS (finite.len g.sessions))
    where
      by_room : (b : Bool) → Closes (cond b (record g { next_user = other + 1 }, Reply other too_many ∷ Close other ∷ []) (quiet (with_session (record g { next_user = other + 1 }) other fresh)))
      by_room true has =
          let same = which other too_many has in
          record {
            none = h (ap (is_new g) same ∙ new);
            old = subst (λ (v : ℕ). is_new (record g { next_user = v + 1 }) user ≡ false) same (just_passed user);
          }
      by_room false has = never (quiet (with_session (record g { next_user = other + 1 }) other fresh)) none_closes has

  ask_closes : (g : GateState) (b : Bool) → Closes (cond b (take g None idle_op) (quiet g))
  ask_closes g true = never (take g None idle_op) (take_closes g None idle_op)
  ask_closes g false = never (quiet g) none_closes

  near_user_closes : (o : Option Session) (a : NearAnswer) (g : GateState) (other : ℕ) → Closes (near_user o a g other)
  near_user_closes None a g other = never (quiet g) none_closes
  near_user_closes (Some s) a g other = near_closes a g other s

  ask_with_closes : (o : Option NearAnswer) (key : List ℕ) (g : GateState) (core observer other : ℕ)
      → Closes (ask_with o key g core observer other)
  ask_with_closes None key g core observer other =
      let x = given.Read observer key in
      never (comes (with_reader g core other) core x) (comes_closes (with_reader g core other) core x)
  ask_with_closes (Some a) key g core observer other = near_user_closes (session_of g other) a g other

  key_closes : (g : GateState) (key : Option (List ℕ)) (core observer other : ℕ) → Closes (ask_for key g core observer other)
  key_closes g None core observer other = never (quiet g) none_closes
  key_closes g (Some key) core observer other = ask_with_closes (looked g.near key) key g core observer other

  ask_read_closes : (g : GateState) (o : Option ℕ) (core observer other : ℕ) → Closes (ask_free o g core observer other)
  ask_read_closes g None core observer other = key_closes g (key_to_ask (session_of g other)) core observer other
  ask_read_closes g (Some reader) core observer other = never (quiet g) none_closes

  unread_closes : (g : GateState) (other : ℕ) (s : Session) (b : Bool) → Closes (taken_if b g other s)
  unread_closes g other s true = waits_closes g other (record s { asked = unread s.asked })
  unread_closes g other s false = never (quiet g) none_closes

  reassign_user_closes : (g : GateState) (core other : ℕ) (o : Option Session) → Closes (reassign_user o g core other)
  reassign_user_closes g core other None = never (quiet g) none_closes
  reassign_user_closes g core other (Some s) = unread_closes g other s (reads_at s.asked core)

  reassign_closes : (g : GateState) (core : ℕ) (o : Option ℕ) → Closes (reassign_reader o g core)
  reassign_closes g core None = never (quiet g) none_closes
  reassign_closes g core (Some other) = reassign_user_closes g core other (session_of g other)

  row_closes : (g : GateState) → IsAbsent user g → (e : Event) → Closes (next g e)
  row_closes g h (events.Datagram core sent) = never (comes g core (Packet sent)) (comes_closes g core (Packet sent))
  row_closes g h (events.Retry core) = never (comes g core (Ticked ticks.Retry)) (comes_closes g core (Ticked ticks.Retry))
  row_closes g h (events.User (users.Opened other)) = opened_closes g h other (is_new g other) refl
  row_closes g h (events.User (users.Sent other bytes)) = sent_closes g h other (session_of g other) bytes refl
  row_closes g h (events.User (users.Left other)) = left_closes g other (session_of g other)
  row_closes g h (events.Read other) = read_closes g h other (session_of g other) refl
  row_closes g h (events.Ask core observer other) = ask_read_closes g (finite.get g.readers core) core observer other
  row_closes g h (events.Reassign core) = reassign_closes g core (finite.get g.readers core)
  row_closes g h (events.Watch now datagram) = never (next g (events.Watch now datagram)) none_closes
  row_closes g h events.Idle = ask_closes g (has_room g.desk.state)

  pub closed_after : (es : List Event) (g : GateState) → IsAbsent user g → Has (gave g es) (Close user) → IsGone (after g es)
  closed_after [] g h has = absurd (none_closes has)
  closed_after (e ∷ es) g h has = elim (Has-append_cases (next g e).1 (gave (next g e).0 es) (Close user) has) [
    | inl now ↦ gone_after es (next g e).0 (row_closes g h e now)
    | inr later ↦ closed_after es (next g e).0 (absent_step user g e h) later
  ]
