-- Which numbers of users were passed, and what leaves the watch and the near observer as they are.
use Rattle.std.proofs.Common.{◌≡◌, ℕ, ◌+◌, ◌-◌, ◌^◌, length, Bool, true, false, cond, List, [], ◌∷◌, ◌++◌, Option, Some, None, refl, sym, ap, subst, ◌∙◌, inl, inr, arith}
use Rattle.std.proofs.Common.{true≢false}
use Rattle.std.specs.Prelude.{◌&&◌, nat_le, nat_lt, Ok, Err}
use Rattle.std.specs.FinMap as finite
use Rattle.std.proofs.lemmas.Bool.{and_left, and_parts, cases_Bool, leb-true, lt-leb}
use Rattle.nop_types.specs.Given as given
use Rattle.nop_types.specs.Given.{Given, Packet, Ticked}
use Rattle.nop_types.specs.declared.input.Tick.TheVariants as ticks
use Rattle.nop_types.specs.Machine.{Machine}
use Rattle.nop_types.specs.declared.output.Out.{Out}
use Rattle.nop_types.specs.declared.output.Out.TheVariants as outs
use Rattle.resp.specs.Reading.{Read, read_request}
use Rattle.resp.specs.declared.parsed.Stop.TheVariants.{More, Wrong}
use Rattle.kv_resp.specs.Table as table
use Rattle.kv_resp.specs.Table.{Action, asked}
use Rattle.kv_resp.specs.declared.demand.Form.{Form}
use Rattle.desk.specs.Desks as desks
use Rattle.desk.specs.Desks.{has_room, Take, Comes}
use Rattle.desk.specs.declared.submitter.Labelled.{Labelled}
use Rattle.observer.specs.ObserverSteps.{Observer}
use Rattle.watching.specs.Watching.{Watching}
use Rattle.users.specs.declared.event.UserEvent.TheVariants as users
use Rattle.gate_core.specs.declared.act.Act.TheVariants.{Reply, Close}
use Rattle.gate_core.specs.declared.act.Event.{Event}
use Rattle.gate_core.specs.declared.act.Event.TheVariants as events
use Rattle.gate_core.specs.declared.gate_state.GateState.{GateState}
use Rattle.gate_core.specs.declared.near.NearAnswer.{NearAnswer}
use Rattle.gate_core.specs.declared.session.InFlight.{InFlight}
use Rattle.gate_core.specs.declared.session.InFlight.TheVariants as flight
use Rattle.gate_core.specs.declared.session.UnderWay.{UnderWay}
use Rattle.gate_core.specs.declared.session.Session.{Session}
use Rattle.gate_core.specs.declared.limits.TheConstants.{MAX_USERS, MAX_WAITING_BYTES}
use Rattle.gate_core.specs.Gates.{admitted, answer_owner, answer_user, ask_for, ask_free, ask_read, ask_with, begin_read, begin_user, busy, came_of, comes, demanded, end_read, ended, executed, fresh, idle_op, is_new, key_to_ask, left_by, left_of, looked, near_user, next, no_observers, opened, quiet, read_as, read_asked, read_from, read_user, reads_at, reassign, reassign_reader, reassign_user, read_of, read_session, replied, sent_to, session_of, slot_in, take, taken_if, tell, tell_all, tell_out, too_many, too_much, with_desk, with_owner, with_reader, with_session, without_owner, without_reader}
use Rattle.gate_core.specs.Runs.{after}
use Rattle.gate_core.proofs.Rows.{passed}
use Rattle.gate_core.proofs.Silence.{IsNoOpening, row_silent}

-- what requests and answers leave as it is: the least number of a user to come, the watch, and the near observer
pub record Outer : Type 0 where
  pub next_user : ℕ
  pub watch : Option Watching
  pub near : Option (Machine Observer)

abbrev pub outer : GateState → Outer
outer g = record { next_user = g.next_user; watch = g.watch; near = g.near }

user_next : (o : Option Session) (g : GateState) (user slot ticket : ℕ) (result : List ℕ)
    → outer (answer_user o g user slot ticket result).0 ≡ outer g
user_next None g user slot ticket result = refl
user_next (Some s) g user slot ticket result = refl

owner_next : (o : Option (Option ℕ)) (g : GateState) (slot ticket : ℕ) (result : List ℕ)
    → outer (answer_owner o g slot ticket result).0 ≡ outer g
owner_next (Some (Some user)) g slot ticket result = user_next (session_of g user) g user slot ticket result
owner_next (Some None) g slot ticket result = refl
owner_next None g slot ticket result = refl

begin_user_next : (o : Option Session) (g : GateState) (user : ℕ) (way : UnderWay) (key : List ℕ)
    → outer (begin_user o g user way key) ≡ outer g
begin_user_next None g user way key = refl
begin_user_next (Some s) g user way key = refl

begin_next : (o : Option ℕ) (g : GateState) (way : UnderWay) (key : List ℕ) → outer (begin_read o g way key) ≡ outer g
begin_next None g way key = refl
begin_next (Some user) g way key = begin_user_next (session_of g user) g user way key

read_user_next : (o : Option Session) (g : GateState) (user position : ℕ) (way : UnderWay) (result : List ℕ)
    → outer (read_user o g user position way result).0 ≡ outer g
read_user_next None g user position way result = refl
read_user_next (Some s) g user position way result = refl

end_next : (o : Option ℕ) (g : GateState) (position : ℕ) (way : UnderWay) (result : List ℕ)
    → outer (end_read o g position way result).0 ≡ outer g
end_next None g position way result = refl
end_next (Some user) g position way result = read_user_next (session_of g user) g user position way result

module _ (came : List ℕ) where
  out_next : (core : ℕ) (ticket : Option ℕ) (out : Out) (g : GateState) → outer (tell_out came core ticket out g).0 ≡ outer g
  out_next core ticket (outs.Send dest sent) g = refl
  out_next core ticket (outs.Submitted request) g = refl
  out_next core None (outs.Accepted client id result) g = refl
  out_next core (Some t) (outs.Accepted client id result) g = owner_next (finite.get g.owners t) (without_owner g t) (slot_in came) t result
  out_next core ticket (outs.Reading client id observer key) g =
      begin_next (finite.get g.readers core) g (record { core = core; id = id; observer = observer }) key
  out_next core ticket (outs.Answered client id observer position result) g =
      end_next (finite.get g.readers core) (without_reader g core) position (record { core = core; id = id; observer = observer }) result
  out_next core ticket _ g = refl

  tell_next : (ls : List Labelled) (g : GateState) → outer (tell_all came ls g).0 ≡ outer g
  tell_next [] g = refl
  tell_next (l ∷ ls) g = tell_next ls (tell came l g).0 ∙ out_next l.core l.ticket l.out g

take_next : (g : GateState) (owner : Option ℕ) (op : List ℕ) → outer (take g owner op).0 ≡ outer g
take_next g owner op =
    tell_next [] (desks.next g.desk.state (Take op)).1 (with_owner (with_desk g (desks.next g.desk.state (Take op)).0) g.desk.state.taken owner)

pub comes_next : (g : GateState) (core : ℕ) (x : Given) → outer (comes g core x).0 ≡ outer g
comes_next g core x = tell_next (came_of x) (desks.next g.desk.state (Comes core x)).1 (with_desk g (desks.next g.desk.state (Comes core x)).0)

op_next : (g : GateState) (user : ℕ) (s : Session) (op : List ℕ) (form : Form) (b : Bool)
    → outer (cond b (executed g user s op form) (replied g user s busy)).0 ≡ outer g
op_next g user s op form true =
    take_next (with_session g user (record s { asked = Some (flight.Op (record { ticket = g.desk.state.taken; form = form })) })) (Some user) op
op_next g user s op form false = refl

read_asked_next : (g : GateState) (user : ℕ) (s : Session) (key : List ℕ) (b : Bool)
    → outer (cond b (read_asked g user s key) (replied g user s no_observers)).0 ≡ outer g
read_asked_next g user s key true = refl
read_asked_next g user s key false = refl

read_from_next : (o : Option NearAnswer) (g : GateState) (user : ℕ) (s : Session) (key : List ℕ)
    → outer (read_from o g user s key).0 ≡ outer g
read_from_next None g user s key = read_asked_next g user s key (nat_lt 0 g.observers)
read_from_next (Some a) g user s key = refl

demand_next : (g : GateState) (user : ℕ) (s : Session) (action : Action) → outer (demanded g user s action).0 ≡ outer g
demand_next g user s (table.Execute op form) = op_next g user s op form (has_room g.desk.state)
demand_next g user s (table.ReadAt key) = read_from_next (looked g.near key) g user s key
demand_next g user s table.Info = refl
demand_next g user s (table.Answer bytes) = refl
demand_next g user s (table.End bytes) = refl

read_next : (g : GateState) (user : ℕ) (s : Session) (r : Read (List (List ℕ))) → outer (read_as g user s r).0 ≡ outer g
read_next g user s (Ok p) = demand_next g user (record s { waiting = p.1 }) (asked p.0)
read_next g user s (Err More) = refl
read_next g user s (Err (Wrong fault)) = refl

session_next : (g : GateState) (user : ℕ) (s : Session) (o : Option InFlight) → outer (read_session g user s o).0 ≡ outer g
session_next g user s None = read_next g user s (read_request s.waiting)
session_next g user s (Some a) = refl

pub reads_next : (g : GateState) (user : ℕ) (o : Option Session) → outer (read_of o g user).0 ≡ outer g
reads_next g user None = refl
reads_next g user (Some s) = session_next g user s s.asked

leave_next : (g : GateState) (a : Option InFlight) → outer (left_by a g) ≡ outer g
leave_next g None = refl
leave_next g (Some (flight.Op a)) = refl
leave_next g (Some (flight.Read r)) = refl

pub left_next : (g : GateState) (user : ℕ) (o : Option Session) → outer (left_of o g user).0 ≡ outer g
left_next g user None = refl
left_next g user (Some s) = leave_next g s.asked

room_next : (g : GateState) (user : ℕ) (s : Session) (bytes : List ℕ) (b : Bool)
    → outer (cond b (ended (left_by s.asked g) user too_much) (quiet (with_session g user (record s { waiting = s.waiting ++ bytes })))).0
    ≡ outer g
room_next g user s bytes true = leave_next g s.asked
room_next g user s bytes false = refl

pub sent_next : (g : GateState) (user : ℕ) (o : Option Session) (bytes : List ℕ) → outer (sent_to o g user bytes).0 ≡ outer g
sent_next g user None bytes = refl
sent_next g user (Some s) bytes = room_next g user s bytes (nat_lt MAX_WAITING_BYTES (length s.waiting + length bytes))

pub ask_next : (g : GateState) (b : Bool) → outer (cond b (take g None idle_op) (quiet g)).0 ≡ outer g
ask_next g true = take_next g None idle_op
ask_next g false = refl

pub admitted_next : (g : GateState) (user : ℕ) (b : Bool)
    → outer (cond b (g, Reply user too_many ∷ Close user ∷ []) (quiet (with_session g user fresh))).0 ≡ outer g
admitted_next g user true = refl
admitted_next g user false = refl

near_user_next : (o : Option Session) (a : NearAnswer) (g : GateState) (user : ℕ) → outer (near_user o a g user).0 ≡ outer g
near_user_next None a g user = refl
near_user_next (Some s) a g user = refl

ask_with_next : (o : Option NearAnswer) (key : List ℕ) (g : GateState) (core observer user : ℕ)
    → outer (ask_with o key g core observer user).0 ≡ outer g
ask_with_next None key g core observer user = comes_next (with_reader g core user) core (given.Read observer key)
ask_with_next (Some a) key g core observer user = near_user_next (session_of g user) a g user

key_next : (g : GateState) (key : Option (List ℕ)) (core observer user : ℕ) → outer (ask_for key g core observer user).0 ≡ outer g
key_next g None core observer user = refl
key_next g (Some key) core observer user = ask_with_next (looked g.near key) key g core observer user

pub ask_read_next : (g : GateState) (o : Option ℕ) (core observer user : ℕ) → outer (ask_free o g core observer user).0 ≡ outer g
ask_read_next g None core observer user = key_next g (key_to_ask (session_of g user)) core observer user
ask_read_next g (Some other) core observer user = refl

reassigned_next : (b : Bool) (g : GateState) (user : ℕ) (s : Session) → outer (taken_if b g user s).0 ≡ outer g
reassigned_next true g user s = refl
reassigned_next false g user s = refl

reassign_user_next : (o : Option Session) (g : GateState) (core user : ℕ) → outer (reassign_user o g core user).0 ≡ outer g
reassign_user_next None g core user = refl
reassign_user_next (Some s) g core user = reassigned_next (reads_at s.asked core) g user s

pub reassign_next : (o : Option ℕ) (g : GateState) (core : ℕ) → outer (reassign_reader o g core).0 ≡ outer g
reassign_next None g core = refl
reassign_next (Some user) g core = reassign_user_next (session_of g user) g core user

-- one that is admitted is passed, and so are all below it
pub admitted_passes : (g : GateState) (other : ℕ) → (admitted (record g { next_user = other + 1 }) other).0.next_user ≡ other + 1
admitted_passes g other =
    ap (λ (p : Outer). p.next_user) (admitted_next (record g { next_user = other + 1 }) other (nat_le MAX_USERS (finite.len g.sessions)))

module _ (user : ℕ) where
  stays : (g h : GateState) → outer h ≡ outer g → is_new g user ≡ false → is_new h user ≡ false
  stays g h e old = ap (λ (p : Outer). nat_le p.next_user user && nat_lt user (2 ^ 64 - 1)) e ∙ old

  opened_stays : (g : GateState) (other : ℕ) → is_new g user ≡ false → (b : Bool) → is_new g other ≡ b
      → is_new (cond b (admitted (record g { next_user = other + 1 }) other) (quiet g)).0 user ≡ false
  opened_stays g other old true new =
      ap (λ (n : ℕ). nat_le n user && nat_lt user (2 ^ 64 - 1)) (admitted_passes g other)
      ∙ passed user g.next_user other (nat_lt user (2 ^ 64 - 1)) old
      (leb-true g.next_user other (and_parts (nat_le g.next_user other) (nat_lt other (2 ^ 64 - 1)) new).0)
  opened_stays g other old false new = old

  -- a number that was passed stays so
  pub passed_step : (g : GateState) (e : Event) → is_new g user ≡ false → is_new (next g e).0 user ≡ false
  passed_step g (events.Datagram core sent) old = stays g (comes g core (Packet sent)).0 (comes_next g core (Packet sent)) old
  passed_step g (events.Retry core) old = stays g (comes g core (Ticked ticks.Retry)).0 (comes_next g core (Ticked ticks.Retry)) old
  passed_step g (events.User (users.Opened other)) old = opened_stays g other old (is_new g other) refl
  passed_step g (events.User (users.Sent other bytes)) old =
      stays g (sent_to (session_of g other) g other bytes).0 (sent_next g other (session_of g other) bytes) old
  passed_step g (events.User (users.Left other)) old = stays g (left_of (session_of g other) g other).0 (left_next g other (session_of g other)) old
  passed_step g (events.Read other) old = stays g (read_of (session_of g other) g other).0 (reads_next g other (session_of g other)) old
  passed_step g (events.Ask core observer other) old =
      stays g (ask_read g core observer other).0 (ask_read_next g (finite.get g.readers core) core observer other) old
  passed_step g (events.Reassign core) old = stays g (reassign g core).0 (reassign_next (finite.get g.readers core) g core) old
  passed_step g (events.Watch now datagram) old = old
  passed_step g events.Idle old = stays g (next g events.Idle).0 (ask_next g (has_room g.desk.state)) old

  -- who connects now was not there before
  abbrev pub IsAbsent : GateState → Type 0
  IsAbsent g = is_new g user ≡ true → session_of g user ≡ None

  own_passed : (g : GateState) → is_new g user ≡ true → is_new (opened g user).0 user ≡ false
  own_passed g new =
      subst (λ (b : Bool). is_new (cond b (admitted (record g { next_user = user + 1 }) user) (quiet g)).0 user ≡ false) (sym new)
      (ap (λ (n : ℕ). nat_le n user && nat_lt user (2 ^ 64 - 1)) (admitted_passes g user)
      ∙ and_left (nat_le (user + 1) user) (nat_lt user (2 ^ 64 - 1)) (lt-leb (user + 1) user (omega arith)))

  no_opening : (g : GateState) (e : Event) → is_new (next g e).0 user ≡ true → is_new g user ≡ true → IsNoOpening user g e
  no_opening g (events.User (users.Opened other)) later now = λ same. absurd (true≢false (sym later
      ∙ subst (λ (v : ℕ). is_new (opened g v).0 user ≡ false) (sym same) (own_passed g now)))
  no_opening g _ later now = tt

  pub absent_step : (g : GateState) (e : Event) → IsAbsent g → IsAbsent (next g e).0
  absent_step g e h later = elim (cases_Bool (is_new g user)) [
    | inl now ↦ (row_silent user g (h now) e (no_opening g e later now)).gone
    | inr old ↦ absurd (true≢false (sym later ∙ passed_step g e old))
  ]

  pub absent_after : (es : List Event) (g : GateState) → IsAbsent g → IsAbsent (after g es)
  absent_after [] g h = h
  absent_after (e ∷ es) g h = absent_after es (next g e).0 (absent_step g e h)
