-- Who is not connected is replied nothing.
use Rattle.std.proofs.Common.{◌≡◌, ℕ, ◌+◌, length, Bool, true, false, cond, List, [], ◌∷◌, ◌++◌, Option, Some, None, refl, sym, ap, subst, ◌∙◌, inl, inr}
use Rattle.std.specs.Prelude.{nat_le, nat_lt, Ok, Err, ⊤}
use Rattle.std.specs.FinMap as finite
use Rattle.std.proofs.lemmas.Bool.{cases_eq}
use Rattle.nop_types.specs.Given as given
use Rattle.nop_types.specs.Given.{Given, Packet, Ticked}
use Rattle.nop_types.specs.declared.input.Tick.TheVariants as ticks
use Rattle.nop_types.specs.declared.output.Out.{Out}
use Rattle.nop_types.specs.declared.output.Out.TheVariants as outs
use Rattle.resp.specs.Reading.{Read, read_request}
use Rattle.resp.specs.declared.parsed.Stop.TheVariants.{More, Wrong}
use Rattle.kv_resp.specs.Table as table
use Rattle.kv_resp.specs.Table.{Action, asked}
use Rattle.kv_resp.specs.declared.demand.Form.{Form}
use Rattle.desk.specs.Desks as desks
use Rattle.desk.specs.Desks.{has_room, Take, Comes}
use Rattle.desk.specs.declared.submitter.Labelled.{Labelled}
use Rattle.users.specs.declared.event.UserEvent.TheVariants as users
use Rattle.gate_core.specs.declared.act.Act.{Act}
use Rattle.gate_core.specs.declared.act.Act.TheVariants.{Reply, Close, Waits}
use Rattle.gate_core.specs.declared.act.Event.{Event}
use Rattle.gate_core.specs.declared.act.Event.TheVariants as events
use Rattle.gate_core.specs.declared.gate_state.GateState.{GateState}
use Rattle.gate_core.specs.declared.near.NearAnswer.{NearAnswer}
use Rattle.gate_core.specs.declared.session.InFlight.{InFlight}
use Rattle.gate_core.specs.declared.session.InFlight.TheVariants as flight
use Rattle.gate_core.specs.declared.session.UnderWay.{UnderWay}
use Rattle.gate_core.specs.declared.session.Session.{Session}
use Rattle.gate_core.specs.declared.limits.TheConstants.{MAX_USERS, MAX_WAITING_BYTES}
use Rattle.gate_core.specs.Gates.{admitted, answer_owner, answer_user, answered, answered_if, ask_for, ask_free, ask_with, awaits, begin_read, begin_user, begun, busy, came_of, comes, demanded, end_read, ended, executed, form_reply, fresh, idle_op, is_new, key_to_ask, left_by, left_of, looked, near_read, near_replied, near_user, next, no_observers, no_request, opened, quiet, read_answer_if, read_answered, read_as, read_asked, read_from, read_user, reads_at, reads_by, reassign_reader, reassign_user, read_of, read_session, replied, sent_to, session_of, slot_in, take, taken_if, tell, tell_all, tell_out, too_many, too_much, with_desk, unread, with_owner, with_reader, with_session, without_owner, without_reader, info, with_turn}
use Rattle.gate_core.specs.Runs.{replies_to}
use Rattle.gate_core.proofs.Entries.{gone_elsewhere, put_elsewhere}
use Rattle.gate_core.proofs.Answering.{other_fresh, other_reply, replies_append}

module _ (user : ℕ) where
  -- the user is not connected after a step, and was replied nothing in it
  pub record IsSilent (p : GateState × List Act) : Type 0 where
    pub gone : session_of p.0 user ≡ None
    pub none : replies_to user p.1 ≡ []

  still : (g : GateState) → session_of g user ≡ None → IsSilent (quiet g)
  still g e = record { gone = e; none = refl }

  -- ---- what is told

  module _ (slot ticket : ℕ) (result : List ℕ) where
    others : (other : ℕ) (s : Session) (b : Bool) → (user ≡ other → ⊥) → replies_to user (answered_if b other slot s result).1 ≡ []
    others other s true d = other_reply user other (form_reply s.asked result) d
    others other s false d = refl

    at_other : (other : ℕ) (o : Option Session) (g : GateState) → (user ≡ other → ⊥) → session_of g user ≡ None
        → IsSilent (answer_user o g other slot ticket result)
    at_other other None g d e = still g e
    at_other other (Some s) g d e = record {
      gone = put_elsewhere g.sessions other (answered other slot s ticket result).0 user d ∙ e;
      none = others other s (awaits s.asked ticket) d;
    }

    to_user : (other : ℕ) (g : GateState) → session_of g user ≡ None → IsSilent (answer_user (session_of g other) g other slot ticket result)
    to_user other g e = elim (cases_eq user other) [
      | inl same ↦ subst (λ (v : ℕ). IsSilent (answer_user (session_of g v) g v slot ticket result)) same
          (subst (λ (o : Option Session). IsSilent (answer_user o g user slot ticket result)) (sym e) (still g e))
      | inr d ↦ at_other other (session_of g other) g d e
    ]

    to_owner : (o : Option (Option ℕ)) (g : GateState) → session_of g user ≡ None → IsSilent (answer_owner o g slot ticket result)
    to_owner (Some (Some other)) g e = to_user other g e
    to_owner (Some None) g e = still g e
    to_owner None g e = still g e

  begin_other : (other : ℕ) (o : Option Session) (g : GateState) (way : UnderWay) (key : List ℕ) → (user ≡ other → ⊥)
      → session_of g user ≡ None → session_of (begin_user o g other way key) user ≡ None
  begin_other other None g way key d e = e
  begin_other other (Some s) g way key d e = put_elsewhere g.sessions other (record s { asked = begun s.asked way key }) user d ∙ e

  begin_silent : (o : Option ℕ) (g : GateState) (way : UnderWay) (key : List ℕ) → session_of g user ≡ None
      → session_of (begin_read o g way key) user ≡ None
  begin_silent None g way key e = e
  begin_silent (Some other) g way key e = elim (cases_eq user other) [
    | inl same ↦ subst (λ (v : ℕ). session_of (begin_user (session_of g v) g v way key) user ≡ None) same
        (subst (λ (o : Option Session). session_of (begin_user o g user way key) user ≡ None) (sym e) e)
    | inr d ↦ begin_other other (session_of g other) g way key d e
  ]

  module _ (position : ℕ) (way : UnderWay) (result : List ℕ) where
    read_none : (other : ℕ) (s : Session) (b : Bool) → (user ≡ other → ⊥) → replies_to user (read_answer_if b other position s result).1 ≡ []
    read_none other s true d = other_fresh user other position s result (nat_le s.seen position) d
    read_none other s false d = refl

    end_other : (other : ℕ) (o : Option Session) (g : GateState) → (user ≡ other → ⊥) → session_of g user ≡ None
        → IsSilent (read_user o g other position way result)
    end_other other None g d e = still g e
    end_other other (Some s) g d e = record {
      gone = put_elsewhere g.sessions other (read_answered other position s way result).0 user d ∙ e;
      none = read_none other s (reads_by s.asked way) d;
    }

    end_silent : (o : Option ℕ) (g : GateState) → session_of g user ≡ None → IsSilent (end_read o g position way result)
    end_silent None g e = still g e
    end_silent (Some other) g e = elim (cases_eq user other) [
      | inl same ↦ subst (λ (v : ℕ). IsSilent (read_user (session_of g v) g v position way result)) same
          (subst (λ (o : Option Session). IsSilent (read_user o g user position way result)) (sym e) (still g e))
      | inr d ↦ end_other other (session_of g other) g d e
    ]

  module _ (came : List ℕ) where
    out_silent : (core : ℕ) (ticket : Option ℕ) (out : Out) (g : GateState) → session_of g user ≡ None
        → IsSilent (tell_out came core ticket out g)
    out_silent core ticket (outs.Send dest sent) g e = record { gone = e; none = refl }
    out_silent core ticket (outs.Submitted request) g e = record { gone = e; none = refl }
    out_silent core None (outs.Accepted client id result) g e = record { gone = e; none = refl }
    out_silent core (Some t) (outs.Accepted client id result) g e =
        let h = to_owner (slot_in came) t result (finite.get g.owners t) (without_owner g t) e in
        record { gone = h.gone; none = h.none }
    out_silent core ticket (outs.Reading client id observer key) g e = record {
      gone = begin_silent (finite.get g.readers core) g (record { core = core; id = id; observer = observer }) key e;
      none = refl;
    }
    out_silent core ticket (outs.Answered client id observer position result) g e =
        let way : UnderWay = record { core = core; id = id; observer = observer } in
        let h = end_silent position way result (finite.get g.readers core) (without_reader g core) e in
        record { gone = h.gone; none = h.none }
    out_silent core ticket _ g e = still g e

    tell_silent : (ls : List Labelled) (g : GateState) → session_of g user ≡ None → IsSilent (tell_all came ls g)
    tell_silent [] g e = still g e
    tell_silent (l ∷ ls) g e =
        let first = out_silent l.core l.ticket l.out g e in
        let all = tell_silent ls (tell came l g).0 first.gone in
        record {
          gone = all.gone;
          none = replies_append user (tell came l g).1 (tell_all came ls (tell came l g).0).1
              ∙ ap (λ (rs : List (List ℕ)). rs ++ replies_to user (tell_all came ls (tell came l g).0).1) first.none ∙ all.none;
        }

  take_silent : (g : GateState) (owner : Option ℕ) (op : List ℕ) → session_of g user ≡ None → IsSilent (take g owner op)
  take_silent g owner op e =
      tell_silent [] (desks.next g.desk.state (Take op)).1 (with_owner (with_desk g (desks.next g.desk.state (Take op)).0) g.desk.state.taken owner) e

  comes_silent : (g : GateState) (core : ℕ) (x : Given) → session_of g user ≡ None → IsSilent (comes g core x)
  comes_silent g core x e = tell_silent (came_of x) (desks.next g.desk.state (Comes core x)).1 (with_desk g (desks.next g.desk.state (Comes core x)).0) e

  -- ---- requests of others

  module _ (g : GateState) (e : session_of g user ≡ None) (other : ℕ) (d : user ≡ other → ⊥) where
    put : (s : Session) → session_of (with_session g other s) user ≡ None
    put s = put_elsewhere g.sessions other s user d ∙ e

    replied_silent : (s : Session) (bytes : List ℕ) → IsSilent (replied g other s bytes)
    replied_silent s bytes = record { gone = put s; none = other_reply user other bytes d }

    ended_silent : (bytes : List ℕ) → IsSilent (ended g other bytes)
    ended_silent bytes = record { gone = gone_elsewhere g.sessions other user d ∙ e; none = other_reply user other bytes d }

    op_silent : (s : Session) (op : List ℕ) (form : Form) (b : Bool) → IsSilent (cond b (executed g other s op form) (replied g other s busy))
    op_silent s op form true =
        let in_flight : Session = record s { asked = Some (flight.Op (record { ticket = g.desk.state.taken; form = form })) } in
        take_silent (with_session g other in_flight) (Some other) op (put in_flight)
    op_silent s op form false = replied_silent s busy

    waits_silent : (s : Session) → IsSilent (with_session g other s, Waits other false ∷ [])
    waits_silent s = record { gone = put s; none = refl }

    read_at_silent : (s : Session) (key : List ℕ) (b : Bool) → IsSilent (cond b (read_asked g other s key) (replied g other s no_observers))
    read_at_silent s key true = waits_silent (record s { asked = Some (flight.Read (record { key = key; under_way = None })) })
    read_at_silent s key false = replied_silent s no_observers

    near_silent : (s : Session) (a : NearAnswer) → IsSilent (near_replied a g other s)
    near_silent s a = record {
      gone = put (near_read a other s).0;
      none = other_fresh user other a.position s a.result (nat_le s.seen a.position) d;
    }

    near_user_silent : (o : Option Session) (a : NearAnswer) → IsSilent (near_user o a g other)
    near_user_silent None a = still g e
    near_user_silent (Some s) a = near_silent s a

    read_from_silent : (o : Option NearAnswer) (s : Session) (key : List ℕ) → IsSilent (read_from o g other s key)
    read_from_silent None s key = read_at_silent s key (nat_lt 0 g.observers)
    read_from_silent (Some a) s key = near_silent (record s { asked = Some (flight.Read (record { key = key; under_way = None })) }) a

    unread_silent : (s : Session) (b : Bool) → IsSilent (taken_if b g other s)
    unread_silent s true = waits_silent (record s { asked = unread s.asked })
    unread_silent s false = still g e

    reassigned_silent : (core : ℕ) (o : Option Session) → IsSilent (reassign_user o g core other)
    reassigned_silent core None = still g e
    reassigned_silent core (Some s) = unread_silent s (reads_at s.asked core)

    demand_silent : (s : Session) (action : Action) → IsSilent (demanded g other s action)
    demand_silent s (table.Execute op form) = op_silent s op form (has_room g.desk.state)
    demand_silent s (table.ReadAt key) = read_from_silent (looked g.near key) s key
    demand_silent s table.Info = replied_silent s (info g.watch)
    demand_silent s (table.Answer bytes) = replied_silent s bytes
    demand_silent s (table.End bytes) = ended_silent bytes

    as_silent : (s : Session) (r : Read (List (List ℕ))) → IsSilent (read_as g other s r)
    as_silent s (Ok p) = demand_silent (record s { waiting = p.1 }) (asked p.0)
    as_silent s (Err More) = still g e
    as_silent s (Err (Wrong fault)) = ended_silent no_request

    session_silent : (s : Session) (o : Option InFlight) → IsSilent (read_session g other s o)
    session_silent s None = as_silent s (read_request s.waiting)
    session_silent s (Some a) = still g e

    read_silent : (o : Option Session) → IsSilent (read_of o g other)
    read_silent None = still g e
    read_silent (Some s) = session_silent s s.asked

    admitted_silent : (b : Bool) → IsSilent (cond b (g, Reply other too_many ∷ Close other ∷ []) (quiet (with_session g other fresh)))
    admitted_silent true = record { gone = e; none = other_reply user other too_many d }
    admitted_silent false = record { gone = put fresh; none = refl }

  left_still : (a : Option InFlight) (g : GateState) → session_of g user ≡ None → session_of (left_by a g) user ≡ None
  left_still None g e = e
  left_still (Some (flight.Op a)) g e = e
  left_still (Some (flight.Read r)) g e = e

  module _ (g : GateState) (e : session_of g user ≡ None) (other : ℕ) (d : user ≡ other → ⊥) where
    room_silent : (s : Session) (bytes : List ℕ) (b : Bool)
        → IsSilent (cond b (ended (left_by s.asked g) other too_much) (quiet (with_session g other (record s { waiting = s.waiting ++ bytes }))))
    room_silent s bytes true = ended_silent (left_by s.asked g) (left_still s.asked g e) other d too_much
    room_silent s bytes false = record { gone = put g e other d (record s { waiting = s.waiting ++ bytes }); none = refl }

    sent_silent : (o : Option Session) (bytes : List ℕ) → IsSilent (sent_to o g other bytes)
    sent_silent None bytes = still g e
    sent_silent (Some s) bytes = room_silent s bytes (nat_lt MAX_WAITING_BYTES (length s.waiting + length bytes))

    left_silent : (o : Option Session) → IsSilent (left_of o g other)
    left_silent None = still g e
    left_silent (Some s) =
        record { gone = gone_elsewhere (left_by s.asked g).sessions other user d ∙ left_still s.asked g e; none = refl }

    opened_silent : (b : Bool) → IsSilent (cond b (admitted (record g { next_user = other + 1 }) other) (quiet g))
    opened_silent true = admitted_silent (record g { next_user = other + 1 }) e other d (nat_le MAX_USERS (finite.len g.sessions))
    opened_silent false = still g e

  -- ---- all rows

  -- it is not the user that connects
  abbrev pub IsNoOpening : GateState → Event → Type 0
  IsNoOpening g (events.User (users.Opened other)) = other ≡ user → is_new g user ≡ false
  IsNoOpening g _ = ⊤

  -- by whose row it is: of the user, who is not connected, or of another one
  by_user : (P : ℕ → Type 0) (other : ℕ) → P user → ((user ≡ other → ⊥) → P other) → P other
  by_user P other own others = elim (cases_eq user other) [
    | inl same ↦ subst P same own
    | inr d ↦ others d
  ]

  own_opened : (g : GateState) → session_of g user ≡ None → is_new g user ≡ false → IsSilent (opened g user)
  own_opened g e old =
      subst (λ (b : Bool). IsSilent (cond b (admitted (record g { next_user = user + 1 }) user) (quiet g))) (sym old) (still g e)

  ask_with_silent : (g : GateState) → session_of g user ≡ None → (o : Option NearAnswer) (key : List ℕ) (core observer other : ℕ)
      → IsSilent (ask_with o key g core observer other)
  ask_with_silent g e None key core observer other = comes_silent (with_reader g core other) core (given.Read observer key) e
  ask_with_silent g e (Some a) key core observer other =
      by_user (λ v. IsSilent (near_user (session_of g v) a g v)) other
      (subst (λ (o : Option Session). IsSilent (near_user o a g user)) (sym e) (still g e))
      (λ d. near_user_silent g e other d (session_of g other) a)

  key_silent : (g : GateState) → session_of g user ≡ None → (key : Option (List ℕ)) (core observer other : ℕ)
      → IsSilent (ask_for key g core observer other)
  key_silent g e None core observer other = still g e
  key_silent g e (Some key) core observer other = ask_with_silent g e (looked g.near key) key core observer other

  ask_read_silent : (g : GateState) → session_of g user ≡ None → (o : Option ℕ) (core observer other : ℕ)
      → IsSilent (ask_free o g core observer other)
  ask_read_silent g e None core observer other = key_silent g e (key_to_ask (session_of g other)) core observer other
  ask_read_silent g e (Some reader) core observer other = still g e

  reassign_silent : (g : GateState) → session_of g user ≡ None → (core : ℕ) (o : Option ℕ) → IsSilent (reassign_reader o g core)
  reassign_silent g e core None = still g e
  reassign_silent g e core (Some other) =
      by_user (λ v. IsSilent (reassign_user (session_of g v) g core v)) other
      (subst (λ (o : Option Session). IsSilent (reassign_user o g core user)) (sym e) (still g e))
      (λ d. reassigned_silent g e other d core (session_of g other))

  pub row_silent : (g : GateState) → session_of g user ≡ None → (e : Event) → IsNoOpening g e → IsSilent (next g e)
  row_silent g e (events.Datagram core sent) unopened = comes_silent g core (Packet sent) e
  row_silent g e (events.Retry core) unopened = comes_silent g core (Ticked ticks.Retry) e
  row_silent g e (events.User (users.Opened other)) unopened = elim (cases_eq user other) [
    | inl same ↦ subst (λ (v : ℕ). IsSilent (opened g v)) same (own_opened g e (unopened (sym same)))
    | inr d ↦ opened_silent g e other d (is_new g other)
  ]
  row_silent g e (events.User (users.Sent other bytes)) unopened =
      by_user (λ v. IsSilent (sent_to (session_of g v) g v bytes)) other
      (subst (λ (o : Option Session). IsSilent (sent_to o g user bytes)) (sym e) (still g e))
      (λ d. sent_silent g e other d (session_of g other) bytes)
  row_silent g e (events.User (users.Left other)) unopened =
      by_user (λ v. IsSilent (left_of (session_of g v) g v)) other
      (subst (λ (o : Option Session). IsSilent (left_of o g user)) (sym e) (still g e))
      (λ d. left_silent g e other d (session_of g other))
  row_silent g e (events.Read other) unopened =
      by_user (λ v. IsSilent (read_of (session_of g v) g v)) other
      (subst (λ (o : Option Session). IsSilent (read_of o g user)) (sym e) (still g e))
      (λ d. read_silent g e other d (session_of g other))
  row_silent g e (events.Ask core observer other) unopened = ask_read_silent g e (finite.get g.readers core) core observer other
  row_silent g e (events.Reassign core) unopened = reassign_silent g e core (finite.get g.readers core)
  row_silent g e (events.Watch now datagram) unopened = still (with_turn g (record { now = now; datagram = datagram })) e
  row_silent g e events.Idle unopened = ask_silent (has_room g.desk.state)
    where
      ask_silent : (b : Bool) → IsSilent (cond b (take g None idle_op) (quiet g))
      ask_silent true = take_silent g None idle_op e
      ask_silent false = still g e
