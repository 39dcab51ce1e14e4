-- What a gateway takes from its devices, and does on them.
use Rattle.std.specs.Prelude.{◌≡◌, ℕ, ◌==◌, ◌&&◌, not, Bool, true, false, List, [], ◌∷◌, ◌++◌, Option, Some, None, Result, Ok, Err, slice_get, slice_set, ⊤}
use Rattle.std.specs.List.{flat_map}
use Rattle.nop_types.specs.Lists.{IsPrefixOf}
use Rattle.outside.specs.Causes.{next_count}
use Rattle.outside.specs.declared.link.PollAnswer.{PollAnswer}
use Rattle.outside.specs.declared.link.PollAnswer.TheVariants.{Received}
use Rattle.udp_node.specs.Sends.{Grows}
use Rattle.users.specs.declared.event.UserAnswer.{UserAnswer}
use Rattle.users.specs.declared.event.UserAnswer.TheVariants as answers
use Rattle.users.specs.declared.event.UserCall.{UserCall}
use Rattle.users.specs.declared.event.UserCall.TheVariants as calls
use Rattle.users.specs.declared.event.UserEvent.{UserEvent}
use Rattle.gate_core.specs.Gates.{next}
use Rattle.gate_core.specs.Runs.{after}
use Rattle.gate_core.specs.declared.act.Act.{Act}
use Rattle.gate_core.specs.declared.act.Act.TheVariants.{Reply, Close}
use Rattle.gate_core.specs.declared.act.Event.{Event}
use Rattle.gate_core.specs.declared.act.Event.TheVariants as events
use Rattle.gate_core.specs.declared.gate_state.GateState.{GateState}
use Rattle.gate.specs.declared.errors.GateError.{GateError}
use Rattle.gate.specs.declared.errors.GateError.TheVariants.{PortFault, LinkFault, UsersFault, NoMemory}
use Rattle.gate.specs.Sides.{LinkSeen, LinksSeen, Side, link_faults}

-- ---- calls on users

-- the call that carries an act out, if it is for a user
abbrev pub call_of : Act → List UserCall
call_of (Reply user bytes) = calls.Replied user bytes ∷ []
call_of (Close user) = calls.Closed user ∷ []
call_of _ = []

abbrev pub calls_of : List Act → List UserCall
calls_of acts = flat_map call_of acts

-- the call that gave an event, if it came from a user
abbrev pub came_in : Event → List UserCall
came_in (events.User event) = calls.Came event ∷ []
came_in _ = []

-- the calls of a run: what came, and what is done for users in each step, in order
abbrev pub run_calls : GateState → List Event → List UserCall
run_calls g [] = []
run_calls g (e ∷ es) = (came_in e ++ calls_of (next g e).1) ++ run_calls (next g e).0 es

-- ---- what came

abbrev pub user_event_in : Event → List UserEvent
user_event_in (events.User event) = event ∷ []
user_event_in _ = []

abbrev pub packet_if : Bool → List ℕ → List (List ℕ)
packet_if true bytes = bytes ∷ []
packet_if false bytes = []

-- an event gives what came over the link at a place: of the watch, or of a core
abbrev pub packet_in : (of_watch : Bool) → (place : ℕ) → Event → List (List ℕ)
packet_in of_watch place (events.Watch now (Some bytes)) = packet_if of_watch bytes
packet_in of_watch place (events.Datagram core bytes) = packet_if (not of_watch && (core == place)) bytes
packet_in of_watch place _ = []

-- the events of users
abbrev pub user_events : List Event → List UserEvent
user_events es = flat_map user_event_in es

-- the datagrams that came over the link at a place: that behind so many cores is the watch's
abbrev pub packets_at : (cores place : ℕ) → List Event → List (List ℕ)
packets_at cores place es = flat_map (packet_in (place == cores) place) es

-- what an answer gave
abbrev pub received : PollAnswer → List (List ℕ)
received (Received bytes) = bytes ∷ []
received _ = []

abbrev pub came : UserAnswer → List UserEvent
came (answers.Came event) = event ∷ []
came _ = []

-- the first answers were taken, and these are all that they gave
pub record TakesFirst {A B : Type 0} (gives : A → List B) (xs : List B) (old : List A) (new : Option (List A)) : Type 0 where
  pub taken : List A
  pub left : List A
  pub split : old ≡ taken ++ left
  pub given : flat_map gives taken ≡ xs
  pub leaves : new ≡ Some left

-- where the answers are observable
abbrev pub Takes : {A B : Type 0} → (A → List B) → List B → Option (List A) → Option (List A) → Type 0
Takes gives xs None new = ⊤
Takes gives xs (Some old) new = TakesFirst gives xs old new

-- the datagrams that came over a link, if there is one
abbrev pub TakesAt : List (List ℕ) → Option LinkSeen → Option LinkSeen → Type 0
TakesAt packets (Some a) (Some b) = Takes received packets a.answers b.answers
TakesAt packets None None = packets ≡ []
TakesAt packets _ _ = ⊥

pub record TakesAll (es : List Event) (old new : LinksSeen) : Type 0 where
  pub cores : new.cores ≡ old.cores
  pub each : (place : ℕ) → TakesAt (packets_at old.cores place es) (slice_get old.links place) (slice_get new.links place)

-- no poll was made on the links
pub record Untaken (old new : LinksSeen) : Type 0 where
  pub answers : TakesAll [] old new
  pub faults : link_faults new ≡ link_faults old

-- The calls that gave events of users, replied to users, and closed connections are these, in order. What came from users and over the
-- links is these events, in order.
pub record Carried (cs : List UserCall) (es : List Event) (a b : Side) : Type 0 where
  pub calls : Grows a.users.trace b.users.trace cs
  pub users : Takes came (user_events es) a.users.to_come b.users.to_come
  pub links : TakesAll es a.links b.links

-- ---- faults

-- no call failed
pub record Faultless (a b : Side) : Type 0 where
  pub users : b.users.faults ≡ a.users.faults
  pub links : link_faults b.links ≡ link_faults a.links

-- one poll of one link failed
pub record OneFailed (old new : List ℕ) : Type 0 where
  pub core : ℕ
  pub before : ℕ
  pub was : slice_get old core ≡ Some before
  pub is : new ≡ slice_set old core (next_count before)

pub record LinkFailed (a b : Side) : Type 0 where
  pub users : b.users.faults ≡ a.users.faults
  pub links : OneFailed (link_faults a.links) (link_faults b.links)

pub record UsersFailed (a b : Side) : Type 0 where
  pub users : b.users.faults ≡ next_count a.users.faults
  pub links : link_faults b.links ≡ link_faults a.links

-- why the gateway ended, over ports that were attached
abbrev pub IsCause : GateError → Side → Side → Type 0
IsCause PortFault a b = ⊥
IsCause LinkFault a b = LinkFailed a b
IsCause UsersFault a b = UsersFailed a b
IsCause NoMemory a b = Faultless a b

-- ---- steps

-- all of some calls were made, and no event was taken
pub record Makes (cs : List UserCall) (a b : Side) : Type 0 where
  pub carried : Carried cs [] a b
  pub faults : Faultless a b

-- the first of them
pub record MakesFirst (cs : List UserCall) (a b : Side) : Type 0 where
  pub done : List UserCall
  pub part : IsPrefixOf done cs
  pub makes : Makes done a b

-- all, or where memory ran out the first of them
abbrev pub MakesAll : {T E : Type 0} → List UserCall → Result T E → Side → Side → Type 0
MakesAll cs (Ok t) a b = Makes cs a b
MakesAll cs (Err e) a b = MakesFirst cs a b

-- the step of an event that was taken, and what is done in it
pub record TakesStep (e : Event) (a b : Side) : Type 0 where
  pub state : b.state ≡ (next a.state e).0
  pub makes : Makes (calls_of (next a.state e).1) a b

-- only the first part of what is done in it
pub record TakesStepPartly (e : Event) (a b : Side) : Type 0 where
  pub makes : MakesFirst (calls_of (next a.state e).1) a b

abbrev pub Steps : {T E : Type 0} → Event → Result T E → Side → Side → Type 0
Steps e (Ok t) a b = TakesStep e a b
Steps e (Err x) a b = TakesStepPartly e a b

-- these events were taken from the devices, and no step yet
pub record Took (es : List Event) (a b : Side) : Type 0 where
  pub state : b.state ≡ a.state
  pub carried : Carried (flat_map came_in es) es a b
  pub faults : Faultless a b

-- none was taken, for this cause
pub record TookNone (e : GateError) (a b : Side) : Type 0 where
  pub carried : Carried [] [] a b
  pub cause : IsCause e a b

-- a call that takes events: which ones, by what it gives
abbrev pub Asks : {T : Type 0} → (T → List Event) → Result T GateError → Side → Side → Type 0
Asks of (Ok t) a b = Took (of t) a b
Asks of (Err e) a b = TookNone e a b

-- the event of a datagram, by whose link it came over
abbrev pub event_with : (of_watch : Bool) → (now place : ℕ) → List ℕ → Event
event_with true now place bytes = events.Watch now (Some bytes)
event_with false now place bytes = events.Datagram place bytes

abbrev pub datagram_of : (cores now place : ℕ) → Option (List ℕ) → List Event
datagram_of cores now place None = []
datagram_of cores now place (Some bytes) = event_with (place == cores) now place bytes ∷ []

abbrev pub event_of : Option UserEvent → List Event
event_of None = []
event_of (Some event) = events.User event ∷ []

-- it comes from no device
abbrev pub IsInside : Event → Type 0
IsInside (events.Retry core) = ⊤
IsInside (events.Read user) = ⊤
IsInside (events.Ask core observer user) = ⊤
IsInside (events.Reassign core) = ⊤
IsInside (events.Watch now None) = ⊤
IsInside events.Idle = ⊤
IsInside _ = ⊥

-- ---- runs

-- the gateway took some events, and did for users all that its core gave in their steps
pub record Ran (a b : Side) : Type 0 where
  pub events : List Event
  pub ends : b.state ≡ after a.state events
  pub carried : Carried (run_calls a.state events) events a b
  pub faults : Faultless a b

-- it took some events, did the first part of that, and ended for this cause
pub record Ended (e : GateError) (a b : Side) : Type 0 where
  pub events : List Event
  pub done : List UserCall
  pub part : IsPrefixOf done (run_calls a.state events)
  pub carried : Carried done events a b
  pub cause : IsCause e a b

abbrev pub Runs : {T : Type 0} → Result T GateError → Side → Side → Type 0
Runs (Ok t) a b = Ran a b
Runs (Err e) a b = Ended e a b
