-- Runs of a gateway over any events, and what is taken and replied in them.
use Rattle.std.specs.Prelude.{◌≡◌, ◌⊎◌, ◌≤◌, ℕ, ◌+◌, ◌-◌, max, length, Bool, true, false, ◌==◌, nat_lt, List, [], ◌∷◌, ◌++◌, map, Option, Some, None, Ok, Err, slice_get, ⊤}
use Rattle.std.specs.List.{flat_map}
use Rattle.nop_types.specs.Given as given
use Rattle.nop_types.specs.Given.{Given, Packet, Ticked}
use Rattle.nop_types.specs.Lists.{Has}
use Rattle.nop_types.specs.Machine.{Machine}
use Rattle.nop_types.specs.declared.input.Tick.TheVariants as ticks
use Rattle.nop_types.specs.declared.output.Out.TheVariants as outs
use Rattle.resp.specs.Reading.{Read, read_request}
use Rattle.resp.specs.Spelling.{spelled}
use Rattle.kv_host.specs.Kv.{kv_meaning}
use Rattle.kv_resp.specs.Results.{reply_to}
use Rattle.kv_resp.specs.Table as table
use Rattle.kv_resp.specs.Table.{Action, asked}
use Rattle.kv_resp.specs.declared.demand.Form.{Form}
use Rattle.kv_resp.specs.declared.demand.Form.TheVariants.{Value}
use Rattle.desk.specs.Desks as desks
use Rattle.desk.specs.Desks.{has_room, Take, Leave, Comes}
use Rattle.desk.specs.Runs as runs
use Rattle.desk.specs.declared.submitter.Labelled.{Labelled}
use Rattle.observer.specs.ObserverSteps as observers
use Rattle.observer.specs.ObserverSteps.{Observer}
use Rattle.watching.specs.Turns.{Turn, after_turns}
use Rattle.watching.specs.Watching.{Watching}
use Rattle.users.specs.declared.event.UserEvent.TheVariants as users
use Rattle.gate_core.specs.declared.act.Act.{Act}
use Rattle.gate_core.specs.declared.act.Act.TheVariants.{Reply}
use Rattle.gate_core.specs.declared.act.Event.{Event}
use Rattle.gate_core.specs.declared.act.Event.TheVariants as events
use Rattle.gate_core.specs.declared.gate_state.GateState.{GateState}
use Rattle.gate_core.specs.declared.session.InFlight.{InFlight}
use Rattle.gate_core.specs.declared.session.InFlight.TheVariants as flight
use Rattle.gate_core.specs.declared.session.Session.{Session}
use Rattle.gate_core.specs.declared.limits.TheConstants.{MAX_WAITING_BYTES}
use Rattle.std.specs.FinMap as finite
use Rattle.gate_core.specs.Gates.{busy, came_of, idle_op, info, key_to_ask, near_answer, next, no_observers, no_request, session_of, slot_in, too_many, too_much}

-- the state after some events
abbrev pub after : GateState → List Event → GateState
after g [] = g
after g (e ∷ es) = after (next g e).0 es

-- what is done in them, in order
abbrev pub gave : GateState → List Event → List Act
gave g [] = []
gave g (e ∷ es) = (next g e).1 ++ gave (next g e).0 es

-- ---- the watch

abbrev pub turn_in : Event → List Turn
turn_in (events.Watch now datagram) = record { now = now; datagram = datagram } ∷ []
turn_in _ = []

-- the turns of the watch in some events, in order
abbrev pub turns_of : List Event → List Turn
turns_of es = flat_map turn_in es

-- a watch after some turns, if there is one
abbrev pub watched_by : Option Watching → List Turn → Option Watching
watched_by None ts = None
watched_by (Some w) ts = Some (after_turns w ts).0

-- after the turns of some events
abbrev pub watched : Option Watching → List Event → Option Watching
watched watch es = watched_by watch (turns_of es)

-- ---- the near observer

abbrev pub packet_in : Event → List Given
packet_in (events.Watch now (Some bytes)) = Packet bytes ∷ []
packet_in _ = []

-- the datagrams that came in some events, in order
abbrev pub packets_of : List Event → List Given
packets_of es = flat_map packet_in es

-- an observer after some inputs, by its own step table, if there is one
abbrev pub near_by : Option (Machine Observer) → List Given → Option (Machine Observer)
near_by None xs = None
near_by (Some o) xs = Some (record o { state = observers.after kv_meaning o.state xs })

-- after the datagrams of some events
abbrev pub near_after : Option (Machine Observer) → List Event → Option (Machine Observer)
near_after near es = near_by near (packets_of es)

-- ---- of one user

abbrev pub reply_if : Bool → List ℕ → List (List ℕ)
reply_if true bytes = bytes ∷ []
reply_if false bytes = []

abbrev pub reply_in : (user : ℕ) → Act → List (List ℕ)
reply_in user (Reply other bytes) = reply_if (other == user) bytes
reply_in user _ = []

-- what it is replied, in order
abbrev pub replies_to : (user : ℕ) → List Act → List (List ℕ)
replies_to user [] = []
replies_to user (a ∷ acts) = reply_in user a ++ replies_to user acts

abbrev pub bytes_if : Bool → List ℕ → List ℕ
bytes_if true bytes = bytes
bytes_if false bytes = []

abbrev pub bytes_in : (user : ℕ) → Event → List ℕ
bytes_in user (events.User (users.Sent other bytes)) = bytes_if (other == user) bytes
bytes_in user _ = []

-- the bytes that it sends, in order
abbrev pub bytes_of : (user : ℕ) → List Event → List ℕ
bytes_of user [] = []
bytes_of user (e ∷ es) = bytes_in user e ++ bytes_of user es

-- ---- the desk

-- an op that the desk takes, and for whom: a user, or the gateway itself
pub record Taken : Type 0 where
  pub owner : Option ℕ
  pub op : List ℕ

-- what the desk is told in a step, if anything, and for whom it takes an op; or whose request for what is known is read, with so many of
-- the bytes of this user behind it; or for whose read a near observer is looked at, as it stands
pub data Told : Type 0 where
  Nothing : Told
  Takes : Taken → Told
  Inputs : (core : ℕ) → Given → Told
  Leaves : (ticket : ℕ) → Told
  Shows : (user rest : ℕ) → Told
  Looks : (user : ℕ) → Machine Observer → Told

abbrev pub takes_if : Bool → Taken → Told
takes_if true t = Takes t
takes_if false t = Nothing

-- a read at the near observer, if there is one
abbrev pub looks : Option (Machine Observer) → (user : ℕ) → Told
looks None user = Nothing
looks (Some o) user = Looks user o

abbrev pub told_by_demand : GateState → (user rest : ℕ) → Action → Told
told_by_demand g user rest (table.Execute op form) = takes_if (has_room g.desk.state) (record { owner = Some user; op = op })
told_by_demand g user rest (table.ReadAt key) = looks g.near user
told_by_demand g user rest table.Info = Shows user rest
told_by_demand g user rest _ = Nothing

abbrev pub told_by_read : GateState → (user : ℕ) → Option InFlight → Read (List (List ℕ)) → Told
told_by_read g user None (Ok p) = told_by_demand g user (length p.1) (asked p.0)
told_by_read g user None (Err stop) = Nothing
told_by_read g user (Some a) r = Nothing

abbrev pub told_by_session : GateState → (user : ℕ) → Option Session → Told
told_by_session g user None = Nothing
told_by_session g user (Some s) = told_by_read g user s.asked (read_request s.waiting)

-- the op in flight of who leaves is for nobody
abbrev pub told_leave : Option InFlight → Told
told_leave (Some (flight.Op a)) = Leaves a.ticket
told_leave _ = Nothing

abbrev pub leave_if : Bool → Option InFlight → Told
leave_if true a = told_leave a
leave_if false a = Nothing

abbrev pub told_by_left : Option Session → Told
told_by_left None = Nothing
told_by_left (Some s) = told_leave s.asked

abbrev pub told_by_sent : Option Session → List ℕ → Told
told_by_sent None bytes = Nothing
told_by_sent (Some s) bytes = leave_if (nat_lt MAX_WAITING_BYTES (length s.waiting + length bytes)) s.asked

abbrev pub told_with : Option (Machine Observer) → (key : List ℕ) → (core observer user : ℕ) → Told
told_with None key core observer user = Inputs core (given.Read observer key)
told_with (Some o) key core observer user = Looks user o

abbrev pub told_by_key : Option (List ℕ) → Option (Machine Observer) → (core observer user : ℕ) → Told
told_by_key None near core observer user = Nothing
told_by_key (Some key) near core observer user = told_with near key core observer user

-- a read that no core has under way, by a core that has none
abbrev pub told_by_ask : Option ℕ → GateState → (core observer user : ℕ) → Told
told_by_ask None g core observer user = told_by_key (key_to_ask (session_of g user)) g.near core observer user
told_by_ask (Some other) g core observer user = Nothing

abbrev pub told_in : GateState → Event → Told
told_in g (events.Datagram core bytes) = Inputs core (Packet bytes)
told_in g (events.Retry core) = Inputs core (Ticked ticks.Retry)
told_in g (events.User (users.Sent user bytes)) = told_by_sent (session_of g user) bytes
told_in g (events.User (users.Left user)) = told_by_left (session_of g user)
told_in g (events.User (users.Opened user)) = Nothing
told_in g (events.Read user) = told_by_session g user (session_of g user)
told_in g (events.Ask core observer user) = told_by_ask (finite.get g.readers core) g core observer user
told_in g (events.Reassign core) = Nothing
told_in g (events.Watch now datagram) = Nothing
told_in g events.Idle = takes_if (has_room g.desk.state) (record { owner = None; op = idle_op })

abbrev pub desk_events : Told → List desks.Event
desk_events Nothing = []
desk_events (Shows user rest) = []
desk_events (Looks user o) = []
desk_events (Takes t) = Take t.op ∷ []
desk_events (Inputs core x) = Comes core x ∷ []
desk_events (Leaves ticket) = Leave ticket ∷ []

abbrev pub takes : Told → List Taken
takes (Takes t) = t ∷ []
takes _ = []

-- what the desk is told in a run, in order
abbrev pub desk_told : GateState → List Event → List desks.Event
desk_told g [] = []
desk_told g (e ∷ es) = desk_events (told_in g e) ++ desk_told (next g e).0 es

-- the ops that it takes, in order: that of ticket t stands at place t
abbrev pub taken : GateState → List Event → List Taken
taken g [] = []
taken g (e ∷ es) = takes (told_in g e) ++ taken (next g e).0 es

-- What is heard in a step, for a user.
pub data Heard : Type 0 where
  -- the desk tells something; the slot of the reply that came in the step, 0 where none did; and how many bytes the user had sent before
  ByDesk : (told : Labelled) → (slot sent : ℕ) → Heard
  -- its request for what is known is read, whose bytes end where it had sent so many, and the watch is this one
  OfWatch : (end_ : ℕ) → (watch : Option Watching) → Heard
  -- the near observer is looked at for its read, and is this one; how many bytes the user had sent before
  OfNear : (near : Machine Observer) → (sent : ℕ) → Heard

abbrev pub came_by : Told → List ℕ
came_by (Inputs core x) = came_of x
came_by _ = []

abbrev pub hears : (slot sent : ℕ) → List Labelled → List Heard
hears slot sent told = map (λ l. ByDesk l slot sent) told

abbrev pub shown_if : Bool → (end_ : ℕ) → Option Watching → List Heard
shown_if true end watch = OfWatch end watch ∷ []
shown_if false end watch = []

abbrev pub looked_if : Bool → Machine Observer → (sent : ℕ) → List Heard
looked_if true near sent = OfNear near sent ∷ []
looked_if false near sent = []

abbrev pub heard_by : (user : ℕ) → GateState → Told → (sent : ℕ) → List Heard
heard_by user g (Shows other rest) sent = shown_if (other == user) (sent - rest) g.watch
heard_by user g (Looks other near) sent = looked_if (other == user) near sent
heard_by user g t sent = hears (slot_in (came_by t)) sent (runs.gave g.desk.state (desk_events t))

-- what is heard in a run for a user, in order, where it has sent so many bytes before
abbrev pub heard : (user sent : ℕ) → GateState → List Event → List Heard
heard user sent g [] = []
heard user sent g (e ∷ es) =
    heard_by user g (told_in g e) sent ++ heard user (sent + length (bytes_in user e)) (next g e).0 es

abbrev pub told_of_one : Heard → List Labelled
told_of_one (ByDesk told slot sent) = told ∷ []
told_of_one _ = []

-- what the desk told of it
abbrev pub told_of : List Heard → List Labelled
told_of hs = flat_map told_of_one hs

-- ---- requests and their replies

-- A request of a user, the ticket of its op, if it has one, and the reply; and where it is the form of a result, the slot of that, or the
-- position of the state that it was read from.
pub record Exchange : Type 0 where
  pub arguments : List (List ℕ)
  pub ticket : Option ℕ
  pub slot : ℕ
  pub reply : List ℕ

-- the desk told that a core accepted this result for the ticket, in a step in which a reply of this slot came
pub record IsResult (heard : List Heard) (ticket slot : ℕ) (result : List ℕ) : Type 0 where
  pub core : ℕ
  pub client : ℕ
  pub id : ℕ
  pub sent : ℕ
  pub has : Has heard (ByDesk (record { core = core; ticket = Some ticket; out = outs.Accepted client id result }) slot sent)

-- the ticket is of this op, taken for this user, and the reply is the form of its result
pub record IsAnswered (ops : List Taken) (heard : List Heard) (user : ℕ) (op : List ℕ) (form : Form) (ticket slot : ℕ) (reply : List ℕ) : Type 0 where
  pub taken : slice_get ops ticket ≡ Some (record { owner = Some user; op = op })
  pub result : List ℕ
  pub accepted : IsResult heard ticket slot result
  pub replied : reply ≡ reply_to form result

-- a core asked an observer for this key, under this id, when the user had sent so many bytes or more
pub record IsAsked (heard : List Heard) (core id observer : ℕ) (key : List ℕ) (end_ : ℕ) : Type 0 where
  pub client : ℕ
  pub ticket : Option ℕ
  pub slot : ℕ
  pub sent : ℕ
  pub after_ : end_ ≤ sent
  pub has : Has heard (ByDesk (record { core = core; ticket = ticket; out = outs.Reading client id observer key }) slot sent)

-- A core asked an observer for this key, when the user had sent so many bytes, and was answered by it under the same id, from the state at
-- this position. The reply is the value that the key has there.
pub record IsRead (heard : List Heard) (key : List ℕ) (end_ position : ℕ) (reply : List ℕ) : Type 0 where
  pub core : ℕ
  pub id : ℕ
  pub observer : ℕ
  pub asks : IsAsked heard core id observer key end_
  pub client : ℕ
  pub ticket : Option ℕ
  pub reply_slot : ℕ
  pub sent : ℕ
  pub result : List ℕ
  pub answers : Has heard (ByDesk (record { core = core; ticket = ticket; out = outs.Answered client id observer position result }) reply_slot sent)
  pub replied : reply ≡ reply_to Value result

-- The near observer was looked at for its user, when the user had sent so many bytes or more. The reply is the value that the key has there,
-- at its position.
pub record IsNearRead (heard : List Heard) (key : List ℕ) (end_ position : ℕ) (reply : List ℕ) : Type 0 where
  pub near : Machine Observer
  pub sent : ℕ
  pub after_ : end_ ≤ sent
  pub looks : Has heard (OfNear near sent)
  pub position_is : position ≡ (near_answer near key).position
  pub replied : reply ≡ reply_to Value (near_answer near key).result

-- either, and the position is not below this slot
pub record IsFreshRead (heard : List Heard) (key : List ℕ) (end_ least position : ℕ) (reply : List ℕ) : Type 0 where
  pub read : IsRead heard key end_ position reply ⊎ IsNearRead heard key end_ position reply
  pub fresh : least ≤ position

-- the reply is what the watch showed in the step in which the request was read whose bytes end here
pub record IsInfo (heard : List Heard) (end_ : ℕ) (reply : List ℕ) : Type 0 where
  pub watch : Option Watching
  pub shown : Has heard (OfWatch end_ watch)
  pub replied : reply ≡ info watch

-- The reply is what the request asks for: the form of a result; or, for an op, that there is no place for it, and for a read, that there are
-- no observers. A read is asked for when all bytes of the request had come, those before `end_`, and is from a state that is not older than
-- the slot `least`.
abbrev pub IsReplied : List Taken → List Heard → (user least end_ : ℕ) → Action → Option ℕ → (slot : ℕ) → (reply : List ℕ) → Type 0
IsReplied ops heard user least end (table.Execute op form) (Some ticket) slot reply = IsAnswered ops heard user op form ticket slot reply
IsReplied ops heard user least end (table.Execute op form) None slot reply = reply ≡ busy
IsReplied ops heard user least end (table.ReadAt key) None slot reply = (reply ≡ no_observers) ⊎ IsFreshRead heard key end least slot reply
IsReplied ops heard user least end table.Info None slot reply = IsInfo heard end reply
IsReplied ops heard user least end (table.Answer bytes) None slot reply = reply ≡ bytes
IsReplied ops heard user least end (table.End bytes) None slot reply = reply ≡ bytes
IsReplied ops heard user least end _ _ slot reply = ⊥

-- where the bytes of a request end that begins here
abbrev pub end_of : (start : ℕ) → Exchange → ℕ
end_of start x = start + length (spelled x.arguments)

-- each, in order: no read is from a state that is older than a result before it
abbrev pub AreReplied : List Taken → List Heard → (user least start : ℕ) → List Exchange → Type 0
AreReplied ops heard user least start [] = ⊤
AreReplied ops heard user least start (x ∷ xs) =
    IsReplied ops heard user least (end_of start x) (asked x.arguments) x.ticket x.slot x.reply
    × AreReplied ops heard user (max least x.slot) (end_of start x) xs

-- the bytes of the requests
abbrev pub requests_of : List Exchange → List ℕ
requests_of [] = []
requests_of (x ∷ xs) = spelled x.arguments ++ requests_of xs

abbrev pub replies_of : List Exchange → List (List ℕ)
replies_of xs = map (λ x. x.reply) xs

-- nothing, or why the gateway ended the connection
abbrev pub IsEnd : List (List ℕ) → Type 0
IsEnd end = (end ≡ []) ⊎ ((end ≡ no_request ∷ []) ⊎ ((end ≡ too_much ∷ []) ⊎ (end ≡ too_many ∷ [])))

-- The bytes that a user sent begin with the requests, in order, and its replies are theirs, one each; the last may be followed by why the
-- gateway ended the connection.
pub record IsServed (ops : List Taken) (heard : List Heard) (user : ℕ) (bytes : List ℕ) (replies : List (List ℕ)) : Type 0 where
  pub exchanges : List Exchange
  pub rest : List ℕ
  pub end_ : List (List ℕ)
  pub requests : bytes ≡ requests_of exchanges ++ rest
  pub each : AreReplied ops heard user 0 0 exchanges
  pub replies_are : replies ≡ replies_of exchanges ++ end_
  pub ends : IsEnd end_

-- what the desk tells in a run, in order
abbrev pub told_by_desk : GateState → List Event → List Labelled
told_by_desk g es = runs.gave g.desk.state (desk_told g es)

abbrev pub opens : (user : ℕ) → Event
opens user = events.User (users.Opened user)

-- a user that connects after some events is served from then on
abbrev pub IsServedFrom : GateState → (before later : List Event) → (user : ℕ) → Type 0
IsServedFrom g before later user =
    IsServed (taken g (before ++ opens user ∷ later)) (heard user 0 (after g before) (opens user ∷ later)) user (bytes_of user later)
    (replies_to user (gave (after g before) (opens user ∷ later)))

-- the user does not connect in these events
abbrev pub IsNoOpeningIn : (user : ℕ) → Event → Type 0
IsNoOpeningIn user (events.User (users.Opened other)) = other ≡ user → ⊥
IsNoOpeningIn user _ = ⊤

abbrev pub IsNoOpeningOf : (user : ℕ) → List Event → Type 0
IsNoOpeningOf user [] = ⊤
IsNoOpeningOf user (e ∷ es) = IsNoOpeningIn user e × IsNoOpeningOf user es
