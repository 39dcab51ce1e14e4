-- What a timer of an actor is to the world: an event, or nothing.
use Rattle.std.specs.Prelude.{ℕ, ◌+◌, List, Bool, true, false, Option, Some, None, nat_le}
use Rattle.nop_types.specs.Meaning.{Meaning}
use Rattle.nop_types.specs.declared.input.Tick.{Tick}
use Rattle.nop_types.specs.declared.input.Tick.TheVariants as ticks
use Rattle.nop_types.specs.declared.output.Actor.{Actor}
use Rattle.nop_types.specs.declared.output.Actor.TheVariants as actors
use Rattle.schedule_text.specs.declared.event.Event.{Event}
use Rattle.schedule_text.specs.declared.event.Event.TheVariants as events
use Rattle.udp_node.specs.declared.firing.Timer.{Timer}
use Rattle.world.specs.Lookups.{takes_op}
use Rattle.world.specs.WorldSteps.{WorldState}
use Rattle.one_box.specs.ClusterRun.{Course, BoxActor, take}

-- a client that takes an op is given its next one, if one is left
abbrev pub submit_if : Bool → ℕ → Option (List ℕ) → Option Event
submit_if true client (Some op) = Some (events.Submit client op)
submit_if true client None = None
submit_if false client op = None

abbrev pub next_event : WorldState → Actor → Option (List ℕ) → Option Event
next_event w (actors.Client i) op = submit_if (takes_op w i) i op
next_event w _ op = None

-- the tick Next gives a client this op, Install comes by no timer, and each other tick is an event
abbrev pub tick_event : WorldState → Actor → Option (List ℕ) → Tick → Option Event
tick_event w own op ticks.Next = next_event w own op
tick_event w own op (ticks.Install j) = None
tick_event w own op tick = Some (events.Tick own tick)

abbrev pub tick_event_if : Bool → WorldState → Actor → Option (List ℕ) → Tick → Option Event
tick_event_if true w own op tick = tick_event w own op tick
tick_event_if false w own op tick = None

-- the event of a timer, where it is due
abbrev pub timer_event : WorldState → Actor → Option (List ℕ) → Timer → ℕ → Option Event
timer_event w own op timer now = tick_event_if (nat_le timer.due now) w own op timer.tick

-- the number of an actor's next op after an event
abbrev pub next_after : Event → ℕ → ℕ → ℕ
next_after (events.Submit client op) place clients = place + clients
next_after _ place clients = place

-- the event is taken, if there is one
abbrev pub take_event : {S : Type 0} → Meaning S → Option Event → Course → BoxActor → Course × BoxActor
take_event m None c n = (c, n)
take_event m (Some e) c n = take m c (record n { next_op = next_after e n.next_op c.world.config.clients }) e
