-- The step table of a gateway.
use Rattle.std.specs.Prelude.{ℕ, ◌+◌, ◌-◌, ◌^◌, ◌≤◌, ⊤, drop, length, Bool, true, false, nat_lt, nat_le, ◌&&◌, ◌==◌, nat_eq, max, List, [], ◌∷◌, ◌++◌, codes, if◌then◌else◌}
use Rattle.std.specs.Prelude.{Option, Some, None, Result, Ok, Err}
use Rattle.std.specs.Cmp.Lexicographic.{pointwise}
use Rattle.std.specs.FinMap as finite
use Rattle.nop_types.specs.Configuration.{Configuration}
use Rattle.nop_types.specs.Given as given
use Rattle.nop_types.specs.Given.{Given, Packet, Ticked}
use Rattle.nop_types.specs.Machine.{Machine}
use Rattle.nop_types.specs.declared.datagram.Datagram.{Datagram}
use Rattle.nop_types.specs.declared.datagram.Datagram.TheVariants as datagrams
use Rattle.nop_types.specs.declared.input.Tick.TheVariants as ticks
use Rattle.nop_types.specs.declared.output.Out.{Out}
use Rattle.nop_types.specs.declared.output.Out.TheVariants as outs
use Rattle.oum_codec.specs.declared.bad.Bad.{Bad}
use Rattle.oum_codec.specs.Reading.{reading}
use Rattle.resp.specs.Reading.{Read, read_request}
use Rattle.resp.specs.Replies.{error}
use Rattle.resp.specs.Spelling.{bulk, line_end}
use Rattle.resp.specs.declared.parsed.Request.{Request}
use Rattle.resp.specs.declared.parsed.Stop.TheVariants.{More, Wrong}
use Rattle.kv_host.specs.Kv.{kv_meaning}
use Rattle.kv_host.specs.declared.op.TheConstants.{GET}
use Rattle.kv_resp.specs.Results.{reply_to}
use Rattle.kv_resp.specs.Table as table
use Rattle.kv_resp.specs.Table.{Action, asked}
use Rattle.kv_resp.specs.declared.demand.Form.{Form}
use Rattle.kv_resp.specs.declared.demand.Form.TheVariants.{Value}
use Rattle.desk.specs.Desks as desks
use Rattle.desk.specs.Desks.{has_room, Take, Leave, Comes}
use Rattle.desk.specs.declared.desk_state.DeskState.{DeskState}
use Rattle.desk.specs.declared.submitter.Labelled.{Labelled}
use Rattle.observer.specs.ObserverSteps as observers
use Rattle.observer.specs.ObserverSteps.{Observer}
use Rattle.observer.specs.Observing as observing
use Rattle.watching.specs.Screens.{last_lines}
use Rattle.watching.specs.Turns.{Turn, turned}
use Rattle.watching.specs.Watching.{Watching}
use Rattle.users.specs.declared.event.UserEvent.{UserEvent}
use Rattle.users.specs.declared.event.UserEvent.TheVariants as users
use Rattle.gate_core.specs.declared.act.Act.{Act}
use Rattle.gate_core.specs.declared.act.Act.TheVariants.{Send, Submitted, Accepted, Reading, Answered, Waits, Reply, Close}
use Rattle.gate_core.specs.declared.act.Event.{Event}
use Rattle.gate_core.specs.declared.act.Event.TheVariants as events
use Rattle.gate_core.specs.declared.gate_state.GateState.{GateState}
use Rattle.gate_core.specs.declared.near.NearAnswer.{NearAnswer}
use Rattle.gate_core.specs.declared.session.Asked.{Asked}
use Rattle.gate_core.specs.declared.session.InFlight.{InFlight}
use Rattle.gate_core.specs.declared.session.InFlight.TheVariants as flight
use Rattle.gate_core.specs.declared.session.Reading as reads
use Rattle.gate_core.specs.declared.session.UnderWay.{UnderWay}
use Rattle.gate_core.specs.declared.session.Session.{Session}
use Rattle.gate_core.specs.declared.limits.TheConstants.{MAX_USERS, MAX_WAITING_BYTES}

-- how many observers may be asked: at the place of the watch there is none
abbrev pub others_than : Option Watching → ℕ → ℕ
others_than None observers = observers
others_than (Some w) observers = observers - 1

-- no users, cores whose numbers were not used before, and a watch and a near observer, if it has them
abbrev pub opening : Configuration → (first count : ℕ) → Option Watching → Option (Machine Observer) → GateState
opening config first count watch near = record {
  desk = record { failed = false; state = desks.opening config first count };
  sessions = finite.empty;
  owners = finite.empty;
  readers = finite.empty;
  observers = others_than watch config.observers;
  next_user = 0;
  watch = watch;
  near = near;
}

-- ---- what is replied where nothing is asked of the service

abbrev pub too_many : List ℕ
too_many = error (codes "ERR max number of clients reached")

abbrev pub too_much : List ℕ
too_much = error (codes "ERR too many requests wait")

abbrev pub no_request : List ℕ
no_request = error (codes "ERR Protocol error")

abbrev pub busy : List ℕ
busy = error (codes "ERR too many ops wait")

abbrev pub no_observers : List ℕ
no_observers = error (codes "ERR no observers to read at")

-- a get of the key `.`
abbrev pub idle_op : List ℕ
idle_op = GET ∷ 0 ∷ 1 ∷ 46 ∷ []

-- a step, and what is done in it
abbrev pub Step : Type 0
Step = GateState × List Act

abbrev pub quiet : GateState → Step
quiet g = (g, [])

-- one step after another
abbrev pub then_do : Step → (GateState → Step) → Step
then_do p f = ((f p.0).0, p.1 ++ (f p.0).1)

-- ---- tables

abbrev pub session_of : GateState → ℕ → Option Session
session_of g user = finite.get g.sessions user

abbrev pub with_session : GateState → ℕ → Session → GateState
with_session g user s = record g { sessions = finite.insert g.sessions user s }

abbrev pub without_session : GateState → ℕ → GateState
without_session g user = record g { sessions = finite.remove g.sessions user }

abbrev pub with_owner : GateState → ℕ → Option ℕ → GateState
with_owner g ticket owner = record g { owners = finite.insert g.owners ticket owner }

abbrev pub without_owner : GateState → ℕ → GateState
without_owner g ticket = record g { owners = finite.remove g.owners ticket }

abbrev pub with_reader : GateState → (core user : ℕ) → GateState
with_reader g core user = record g { readers = finite.insert g.readers core user }

abbrev pub without_reader : GateState → (core : ℕ) → GateState
without_reader g core = record g { readers = finite.remove g.readers core }

-- the desk takes an event
abbrev pub with_desk : GateState → DeskState → GateState
with_desk g d = record g { desk = record g.desk { state = d } }

-- ---- answers

-- the slot of a reply; 0 of anything else
abbrev pub reply_slot : Result Datagram Bad → ℕ
reply_slot (Ok (datagrams.Reply p)) = p.slot
reply_slot _ = 0

-- that of the reply that a datagram is: a core that accepts a result at it has it from this slot
abbrev pub slot_in : (came : List ℕ) → ℕ
slot_in came = reply_slot (reading came)

-- the op in flight
abbrev pub op_of : Option InFlight → Option Asked
op_of (Some (flight.Op a)) = Some a
op_of _ = None

-- its op in flight has this ticket
abbrev pub awaits : Option InFlight → ℕ → Bool
awaits (Some (flight.Op a)) ticket = a.ticket == ticket
awaits _ ticket = false

abbrev pub form_reply : Option InFlight → (result : List ℕ) → List ℕ
form_reply (Some (flight.Op a)) result = reply_to a.form result
form_reply _ result = []

abbrev pub answered_if : Bool → (user slot : ℕ) → Session → (result : List ℕ) → Session × List Act
answered_if true user slot s result =
    (record s { asked = None; seen = max s.seen slot }, Reply user (form_reply s.asked result) ∷ [])
answered_if false user slot s result = (s, [])

-- a user whose op has this ticket is replied its result, which is from this slot
abbrev pub answered : (user slot : ℕ) → Session → (ticket : ℕ) → (result : List ℕ) → Session × List Act
answered user slot s ticket result = answered_if (awaits s.asked ticket) user slot s result

abbrev pub answer_user : Option Session → GateState → (user slot ticket : ℕ) → (result : List ℕ) → Step
answer_user None g user slot ticket result = quiet g
answer_user (Some s) g user slot ticket result =
    (with_session g user (answered user slot s ticket result).0, (answered user slot s ticket result).1)

-- the owner of the ticket, if it is a user that is still there
abbrev pub answer_owner : Option (Option ℕ) → GateState → (slot ticket : ℕ) → (result : List ℕ) → Step
answer_owner (Some (Some user)) g slot ticket result = answer_user (session_of g user) g user slot ticket result
answer_owner (Some None) g slot ticket result = quiet g
answer_owner None g slot ticket result = quiet g

abbrev pub answer : Option ℕ → GateState → (slot : ℕ) → (result : List ℕ) → Step
answer None g slot result = quiet g
answer (Some ticket) g slot result = answer_owner (finite.get g.owners ticket) (without_owner g ticket) slot ticket result

-- ---- reads

-- the same bytes
abbrev pub same_key : List ℕ → List ℕ → Bool
same_key a b = pointwise nat_eq a b

abbrev pub begun_if : Bool → reads.Reading → UnderWay → reads.Reading
begun_if true r way = record r { under_way = Some way }
begun_if false r way = r

-- its read of this key is under way
abbrev pub begun : Option InFlight → UnderWay → (key : List ℕ) → Option InFlight
begun (Some (flight.Read r)) way key = Some (flight.Read (begun_if (same_key r.key key) r way))
begun asked way key = asked

abbrev pub begin_user : Option Session → GateState → (user : ℕ) → UnderWay → (key : List ℕ) → GateState
begin_user None g user way key = g
begin_user (Some s) g user way key = with_session g user (record s { asked = begun s.asked way key })

-- a core asked an observer for a key, for the user that it reads for
abbrev pub begin_read : Option ℕ → GateState → UnderWay → (key : List ℕ) → GateState
begin_read None g way key = g
begin_read (Some user) g way key = begin_user (session_of g user) g user way key

abbrev pub is_way : Option UnderWay → UnderWay → Bool
is_way None way = false
is_way (Some w) way = (w.core == way.core) && ((w.id == way.id) && (w.observer == way.observer))

-- its read in flight is the one that this core has under way
abbrev pub reads_by : Option InFlight → UnderWay → Bool
reads_by (Some (flight.Read r)) way = is_way r.under_way way
reads_by _ way = false

-- its read waits for a core
abbrev pub unread : Option InFlight → Option InFlight
unread (Some (flight.Read r)) = Some (flight.Read (record r { under_way = None }))
unread asked = asked

-- the state that it was answered from is not older than what its user has seen
abbrev pub fresh_if : Bool → (user position : ℕ) → Session → (result : List ℕ) → Session × List Act
fresh_if true user position s result = (record s { asked = None; seen = position }, Reply user (reply_to Value result) ∷ [])
fresh_if false user position s result = (record s { asked = unread s.asked }, Waits user true ∷ [])

abbrev pub read_answer_if : Bool → (user position : ℕ) → Session → (result : List ℕ) → Session × List Act
read_answer_if true user position s result = fresh_if (nat_le s.seen position) user position s result
read_answer_if false user position s result = (s, [])

-- a user whose read this is is replied its result, or its read waits again
abbrev pub read_answered : (user position : ℕ) → Session → UnderWay → (result : List ℕ) → Session × List Act
read_answered user position s way result = read_answer_if (reads_by s.asked way) user position s result

abbrev pub read_user : Option Session → GateState → (user position : ℕ) → UnderWay → (result : List ℕ) → Step
read_user None g user position way result = quiet g
read_user (Some s) g user position way result =
    (with_session g user (read_answered user position s way result).0, (read_answered user position s way result).1)

-- a core was answered, for the user that it reads for
abbrev pub end_read : Option ℕ → GateState → (position : ℕ) → UnderWay → (result : List ℕ) → Step
end_read None g position way result = quiet g
end_read (Some user) g position way result = read_user (session_of g user) g user position way result

-- ---- what cores give

-- what a core gave, where this datagram came
abbrev pub tell_out : (came : List ℕ) → (core : ℕ) → Option ℕ → Out → GateState → Step
tell_out came core ticket (outs.Send dest bytes) g = (g, Send core dest bytes ∷ [])
tell_out came core ticket (outs.Submitted request) g = (g, Submitted core request.id ∷ [])
tell_out came core ticket (outs.Accepted client id result) g =
    then_do (g, Accepted core id ∷ []) (λ h. answer ticket h (slot_in came) result)
tell_out came core ticket (outs.Reading client id observer key) g =
    (begin_read (finite.get g.readers core) g (record { core = core; id = id; observer = observer }) key, Reading core id ∷ [])
tell_out came core ticket (outs.Answered client id observer position result) g =
    then_do (without_reader g core, Answered core id ∷ [])
    (λ h. end_read (finite.get g.readers core) h position (record { core = core; id = id; observer = observer }) result)
tell_out came core ticket _ g = quiet g

abbrev pub tell : (came : List ℕ) → Labelled → GateState → Step
tell came l g = tell_out came l.core l.ticket l.out g

abbrev pub tell_all : (came : List ℕ) → List Labelled → GateState → Step
tell_all came [] g = quiet g
tell_all came (l ∷ told) g = then_do (tell came l g) (tell_all came told)

-- ---- the near observer

-- it hears a datagram, if one came
abbrev pub heard_if : Machine Observer → Option (List ℕ) → Machine Observer
heard_if o None = o
heard_if o (Some bytes) = record o { state = (observers.next kv_meaning o.state (Packet bytes)).0 }

abbrev pub heard_near : Option (Machine Observer) → Option (List ℕ) → Option (Machine Observer)
heard_near None datagram = None
heard_near (Some o) datagram = Some (heard_if o datagram)

-- what it answers to the read of a key, from its position
abbrev pub near_answer : Machine Observer → (key : List ℕ) → NearAnswer
near_answer o key = record {
  position = observing.position o.state.heard.state;
  result = observers.answer_of kv_meaning o.state key;
}

-- if there is one
abbrev pub looked : Option (Machine Observer) → (key : List ℕ) → Option NearAnswer
looked None key = None
looked (Some o) key = Some (near_answer o key)

-- a user whose read is in flight is replied its answer, or its read waits again
abbrev pub near_read : NearAnswer → (user : ℕ) → Session → Session × List Act
near_read a user s = fresh_if (nat_le s.seen a.position) user a.position s a.result

abbrev pub near_replied : NearAnswer → GateState → (user : ℕ) → Session → Step
near_replied a g user s = (with_session g user (near_read a user s).0, (near_read a user s).1)

abbrev pub near_user : Option Session → NearAnswer → GateState → (user : ℕ) → Step
near_user None a g user = quiet g
near_user (Some s) a g user = near_replied a g user s

-- ---- inputs of cores, and what the gateway asks itself

-- the datagram that an input is; no bytes of any other one
abbrev pub came_of : Given → List ℕ
came_of (Packet bytes) = bytes
came_of _ = []

abbrev pub comes : GateState → (core : ℕ) → Given → Step
comes g core x = tell_all (came_of x) (desks.next g.desk.state (Comes core x)).1 (with_desk g (desks.next g.desk.state (Comes core x)).0)

-- the desk takes an op for an owner
abbrev pub take : GateState → (owner : Option ℕ) → (op : List ℕ) → Step
take g owner op =
    tell_all [] (desks.next g.desk.state (Take op)).1
    (with_owner (with_desk g (desks.next g.desk.state (Take op)).0) g.desk.state.taken owner)

abbrev pub ask : GateState → Step
ask g = if has_room g.desk.state then take g None idle_op else quiet g

-- ---- the watch

abbrev pub turned_by : Option Watching → Turn → Option Watching
turned_by None t = None
turned_by (Some w) t = Some (turned w t)

-- it takes a turn: a datagram comes, or none, and it is so late; the near observer hears the datagram
abbrev pub with_turn : GateState → Turn → GateState
with_turn g t = record g { watch = turned_by g.watch t; near = heard_near g.near t.datagram }

-- the lines that it showed last, if there is one
abbrev pub shown_by : Option Watching → List ℕ
shown_by None = []
shown_by (Some w) = last_lines w

-- what is said of the gateway itself, and then what its watch shows
abbrev pub info : Option Watching → List ℕ
info watch = bulk (codes "redis_mode:standalone" ++ line_end ++ shown_by watch)

-- ---- requests

-- a user is replied to, and its connection ends
abbrev pub ended : GateState → (user : ℕ) → (reply : List ℕ) → Step
ended g user reply = (without_session g user, Reply user reply ∷ Close user ∷ [])

abbrev pub replied : GateState → (user : ℕ) → Session → (reply : List ℕ) → Step
replied g user s reply = (with_session g user s, Reply user reply ∷ [])

-- its op is in flight
abbrev pub executed : GateState → (user : ℕ) → Session → (op : List ℕ) → Form → Step
executed g user s op form =
    take (with_session g user (record s { asked = Some (flight.Op (record { ticket = g.desk.state.taken; form = form })) })) (Some user) op

-- its read waits for a core
abbrev pub read_asked : GateState → (user : ℕ) → Session → (key : List ℕ) → Step
read_asked g user s key =
    (with_session g user (record s { asked = Some (flight.Read (record { key = key; under_way = None })) }), Waits user false ∷ [])

-- at the near observer, or, where there is none, at an observer
abbrev pub read_from : Option NearAnswer → GateState → (user : ℕ) → Session → (key : List ℕ) → Step
read_from None g user s key = if nat_lt 0 g.observers then read_asked g user s key else replied g user s no_observers
read_from (Some a) g user s key = near_replied a g user (record s { asked = Some (flight.Read (record { key = key; under_way = None })) })

abbrev pub demanded : GateState → (user : ℕ) → Session → Action → Step
demanded g user s (table.Execute op form) = if has_room g.desk.state then executed g user s op form else replied g user s busy
demanded g user s (table.ReadAt key) = read_from (looked g.near key) g user s key
demanded g user s table.Info = replied g user s (info g.watch)
demanded g user s (table.Answer reply) = replied g user s reply
demanded g user s (table.End reply) = ended g user reply

-- the user's bytes begin with a request
abbrev pub requested : Option Session → GateState → (user : ℕ) → Request → Step
requested None g user r = quiet g
requested (Some s) g user r = demanded g user (record s { waiting = drop r.len s.waiting }) (asked r.arguments.items)

abbrev pub HasBytes : Option Session → (len : ℕ) → Type 0
HasBytes None len = ⊤
HasBytes (Some s) len = len ≤ length s.waiting

-- the request with which a user's bytes begin
abbrev pub read_as : GateState → (user : ℕ) → Session → Read (List (List ℕ)) → Step
read_as g user s (Ok p) = demanded g user (record s { waiting = p.1 }) (asked p.0)
read_as g user s (Err More) = quiet g
read_as g user s (Err (Wrong fault)) = ended g user no_request

-- where none of it is in flight
abbrev pub read_session : GateState → (user : ℕ) → Session → Option InFlight → Step
read_session g user s None = read_as g user s (read_request s.waiting)
read_session g user s (Some a) = quiet g

abbrev pub read_of : Option Session → GateState → (user : ℕ) → Step
read_of None g user = quiet g
read_of (Some s) g user = read_session g user s s.asked

abbrev pub read : GateState → (user : ℕ) → Step
read g user = read_of (session_of g user) g user

-- ---- reads of observers

abbrev pub key_if : Option UnderWay → (key : List ℕ) → Option (List ℕ)
key_if None key = Some key
key_if (Some way) key = None

-- the key of a read that no core has under way
abbrev pub key_of : Option InFlight → Option (List ℕ)
key_of (Some (flight.Read r)) = key_if r.under_way r.key
key_of _ = None

abbrev pub key_to_ask : Option Session → Option (List ℕ)
key_to_ask None = None
key_to_ask (Some s) = key_of s.asked

-- it is read at the near observer again, or, where there is none, the core asks for it
abbrev pub ask_with : Option NearAnswer → (key : List ℕ) → GateState → (core observer user : ℕ) → Step
ask_with None key g core observer user = comes (with_reader g core user) core (given.Read observer key)
ask_with (Some a) key g core observer user = near_user (session_of g user) a g user

abbrev pub ask_for : Option (List ℕ) → GateState → (core observer user : ℕ) → Step
ask_for None g core observer user = quiet g
ask_for (Some key) g core observer user = ask_with (looked g.near key) key g core observer user

-- by a core that has none under way
abbrev pub ask_free : Option ℕ → GateState → (core observer user : ℕ) → Step
ask_free None g core observer user = ask_for (key_to_ask (session_of g user)) g core observer user
ask_free (Some other) g core observer user = quiet g

abbrev pub ask_read : GateState → (core observer user : ℕ) → Step
ask_read g core observer user = ask_free (finite.get g.readers core) g core observer user

abbrev pub is_at : Option UnderWay → (core : ℕ) → Bool
is_at None core = false
is_at (Some way) core = way.core == core

-- its read in flight is under way at this core
abbrev pub reads_at : Option InFlight → (core : ℕ) → Bool
reads_at (Some (flight.Read r)) core = is_at r.under_way core
reads_at _ core = false

abbrev pub taken_if : Bool → GateState → (user : ℕ) → Session → Step
taken_if true g user s = (with_session g user (record s { asked = unread s.asked }), Waits user false ∷ [])
taken_if false g user s = quiet g

abbrev pub reassign_user : Option Session → GateState → (core user : ℕ) → Step
reassign_user None g core user = quiet g
reassign_user (Some s) g core user = taken_if (reads_at s.asked core) g user s

abbrev pub reassign_reader : Option ℕ → GateState → (core : ℕ) → Step
reassign_reader None g core = quiet g
reassign_reader (Some user) g core = reassign_user (session_of g user) g core user

-- the read that a core has under way waits for another one
abbrev pub reassign : GateState → (core : ℕ) → Step
reassign g core = reassign_reader (finite.get g.readers core) g core

-- ---- users

-- numbers rise
abbrev pub is_new : GateState → ℕ → Bool
is_new g user = nat_le g.next_user user && nat_lt user (2 ^ 64 - 1)

abbrev pub fresh : Session
fresh = record { waiting = []; asked = None; seen = 0 }

abbrev pub admitted : GateState → (user : ℕ) → Step
admitted g user =
    if nat_le MAX_USERS (finite.len g.sessions) then (g, Reply user too_many ∷ Close user ∷ []) else quiet (with_session g user fresh)

abbrev pub opened : GateState → (user : ℕ) → Step
opened g user = if is_new g user then admitted (record g { next_user = user + 1 }) user else quiet g

-- what is in flight, if something is, is for nobody
abbrev pub left_by : Option InFlight → GateState → GateState
left_by None g = g
left_by (Some (flight.Read r)) g = g
left_by (Some (flight.Op a)) g = without_owner (with_desk g (desks.next g.desk.state (Leave a.ticket)).0) a.ticket

abbrev pub sent_to : Option Session → GateState → (user : ℕ) → (bytes : List ℕ) → Step
sent_to None g user bytes = quiet g
sent_to (Some s) g user bytes =
    if nat_lt MAX_WAITING_BYTES (length s.waiting + length bytes) then ended (left_by s.asked g) user too_much
    else quiet (with_session g user (record s { waiting = s.waiting ++ bytes }))

abbrev pub left_of : Option Session → GateState → (user : ℕ) → Step
left_of None g user = quiet g
left_of (Some s) g user = quiet (without_session (left_by s.asked g) user)

abbrev pub user_event : GateState → UserEvent → Step
user_event g (users.Opened user) = opened g user
user_event g (users.Sent user bytes) = sent_to (session_of g user) g user bytes
user_event g (users.Left user) = left_of (session_of g user) g user

-- ---- all rows

abbrev pub next : GateState → Event → Step
next g (events.Datagram core bytes) = comes g core (Packet bytes)
next g (events.Retry core) = comes g core (Ticked ticks.Retry)
next g (events.User event) = user_event g event
next g (events.Read user) = read g user
next g (events.Ask core observer user) = ask_read g core observer user
next g (events.Reassign core) = reassign g core
next g (events.Watch now datagram) = quiet (with_turn g (record { now = now; datagram = datagram }))
next g events.Idle = ask g
