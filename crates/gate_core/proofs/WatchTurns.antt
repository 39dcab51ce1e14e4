-- The watch takes its turns, and the near observer hears their datagrams; nothing else changes them.
use Rattle.std.proofs.Common.{◌≡◌, ℕ, ◌+◌, Bool, true, false, cond, List, [], ◌∷◌, ◌++◌, Option, Some, None, refl, ap, ◌∙◌}
use Rattle.std.specs.Prelude.{nat_le}
use Rattle.std.specs.FinMap as finite
use Rattle.nop_types.specs.Given.{Given, Packet, Ticked}
use Rattle.nop_types.specs.Machine.{Machine}
use Rattle.nop_types.specs.declared.input.Tick.TheVariants as ticks
use Rattle.desk.specs.Desks.{has_room}
use Rattle.users.specs.declared.event.UserEvent.TheVariants as users
use Rattle.observer.specs.ObserverSteps.{Observer}
use Rattle.watching.specs.Turns.{Turn}
use Rattle.watching.specs.Watching.{Watching}
use Rattle.gate_core.specs.declared.act.Event.{Event}
use Rattle.gate_core.specs.declared.act.Event.TheVariants as events
use Rattle.gate_core.specs.declared.gate_state.GateState.{GateState}
use Rattle.gate_core.specs.declared.limits.TheConstants.{MAX_USERS}
use Rattle.gate_core.specs.Gates.{admitted, heard_near, is_new, next, quiet, session_of, turned_by}
use Rattle.gate_core.specs.Runs.{after, near_after, near_by, packet_in, packets_of, turns_of, watched, watched_by}
use Rattle.gate_core.proofs.Numbers.{Outer, admitted_next, ask_next, ask_read_next, comes_next, left_next, outer, reads_next, reassign_next, sent_next}

-- its turns are none
none_of : (g h : GateState) → outer h ≡ outer g → (es : List Event) → watched h.watch es ≡ watched g.watch es
none_of g h e es = ap (λ (p : Outer). watched p.watch es) e

opened_of : (g : GateState) (other : ℕ) (b : Bool) (es : List Event)
    → watched (cond b (admitted (record g { next_user = other + 1 }) other) (quiet g)).0.watch es ≡ watched g.watch es
opened_of g other true es =
    let h : GateState = record g { next_user = other + 1 } in
    none_of h (admitted h other).0 (admitted_next h other (nat_le MAX_USERS (finite.len g.sessions))) es
opened_of g other false es = refl

turn_then : (w : Option Watching) (t : Turn) (ts : List Turn) → watched_by (turned_by w t) ts ≡ watched_by w (t ∷ ts)
turn_then None t ts = refl
turn_then (Some w) t ts = refl

watch_step : (g : GateState) (e : Event) (es : List Event) → watched (next g e).0.watch es ≡ watched g.watch (e ∷ es)
watch_step g (events.Datagram core sent) es = none_of g (next g (events.Datagram core sent)).0 (comes_next g core (Packet sent)) es
watch_step g (events.Retry core) es = none_of g (next g (events.Retry core)).0 (comes_next g core (Ticked ticks.Retry)) es
watch_step g (events.User (users.Opened other)) es = opened_of g other (is_new g other) es
watch_step g (events.User (users.Sent other bytes)) es =
    none_of g (next g (events.User (users.Sent other bytes))).0 (sent_next g other (session_of g other) bytes) es
watch_step g (events.User (users.Left other)) es = none_of g (next g (events.User (users.Left other))).0 (left_next g other (session_of g other)) es
watch_step g (events.Read other) es = none_of g (next g (events.Read other)).0 (reads_next g other (session_of g other)) es
watch_step g (events.Ask core observer other) es =
    none_of g (next g (events.Ask core observer other)).0 (ask_read_next g (finite.get g.readers core) core observer other) es
watch_step g (events.Reassign core) es = none_of g (next g (events.Reassign core)).0 (reassign_next (finite.get g.readers core) g core) es
watch_step g (events.Watch now datagram) es = turn_then g.watch (record { now = now; datagram = datagram }) (turns_of es)
watch_step g events.Idle es = none_of g (next g events.Idle).0 (ask_next g (has_room g.desk.state)) es

no_turns : (w : Option Watching) → w ≡ watched_by w []
no_turns None = refl
no_turns (Some w) = refl

pub watch_after : (es : List Event) (g : GateState) → (after g es).watch ≡ watched g.watch es
watch_after [] g = no_turns g.watch
watch_after (e ∷ es) g = watch_after es (next g e).0 ∙ watch_step g e es

-- ---- the near observer

-- it hears nothing in this step
unheard : (g h : GateState) → outer h ≡ outer g → (es : List Event) → near_after h.near es ≡ near_after g.near es
unheard g h e es = ap (λ (p : Outer). near_after p.near es) e

opened_unheard : (g : GateState) (other : ℕ) (b : Bool) (es : List Event)
    → near_after (cond b (admitted (record g { next_user = other + 1 }) other) (quiet g)).0.near es ≡ near_after g.near es
opened_unheard g other true es =
    let h : GateState = record g { next_user = other + 1 } in
    unheard h (admitted h other).0 (admitted_next h other (nat_le MAX_USERS (finite.len g.sessions))) es
opened_unheard g other false es = refl

heard_then : (o : Option (Machine Observer)) (now : ℕ) (datagram : Option (List ℕ)) (xs : List Given)
    → near_by (heard_near o datagram) xs ≡ near_by o (packet_in (events.Watch now datagram) ++ xs)
heard_then None now datagram xs = refl
heard_then (Some o) now None xs = refl
heard_then (Some o) now (Some bytes) xs = refl

near_step : (g : GateState) (e : Event) (es : List Event) → near_after (next g e).0.near es ≡ near_after g.near (e ∷ es)
near_step g (events.Datagram core sent) es = unheard g (next g (events.Datagram core sent)).0 (comes_next g core (Packet sent)) es
near_step g (events.Retry core) es = unheard g (next g (events.Retry core)).0 (comes_next g core (Ticked ticks.Retry)) es
near_step g (events.User (users.Opened other)) es = opened_unheard g other (is_new g other) es
near_step g (events.User (users.Sent other bytes)) es =
    unheard g (next g (events.User (users.Sent other bytes))).0 (sent_next g other (session_of g other) bytes) es
near_step g (events.User (users.Left other)) es = unheard g (next g (events.User (users.Left other))).0 (left_next g other (session_of g other)) es
near_step g (events.Read other) es = unheard g (next g (events.Read other)).0 (reads_next g other (session_of g other)) es
near_step g (events.Ask core observer other) es =
    unheard g (next g (events.Ask core observer other)).0 (ask_read_next g (finite.get g.readers core) core observer other) es
near_step g (events.Reassign core) es = unheard g (next g (events.Reassign core)).0 (reassign_next (finite.get g.readers core) g core) es
near_step g (events.Watch now datagram) es = heard_then g.near now datagram (packets_of es)
near_step g events.Idle es = unheard g (next g events.Idle).0 (ask_next g (has_room g.desk.state)) es

no_packets : (o : Option (Machine Observer)) → o ≡ near_by o []
no_packets None = refl
no_packets (Some o) = refl

pub near_observer_after : (es : List Event) (g : GateState) → (after g es).near ≡ near_after g.near es
near_observer_after [] g = no_packets g.near
near_observer_after (e ∷ es) g = near_observer_after es (next g e).0 ∙ near_step g e es
