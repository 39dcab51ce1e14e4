-- When an event is refused: the first cause that holds, in the order of the causes.
use Rattle.std.specs.Prelude.{◌≡◌, Bool, true, ◌&&◌, if◌then◌else◌, length, nat_lt, Option, Some, None, Result, Ok, Err}
use Rattle.nop_types.specs.Configuration.{Configuration}
use Rattle.nop_types.specs.declared.datagram.Datagram.{Datagram}
use Rattle.nop_types.specs.declared.output.Actor.{Actor}
use Rattle.oum_codec.specs.declared.bad.Bad.{Bad}
use Rattle.oum_codec.specs.Reading.{reading}
use Rattle.schedule_text.specs.declared.event.Event.{Event}
use Rattle.schedule_text.specs.declared.event.Event.TheVariants as events
use Rattle.schedule_text.specs.Ticks.{takes_tick}
use Rattle.world.specs.Others.{Kind, seats, count, Who, AReplica, Another, AnObserver, who}
use Rattle.world.specs.WorldSteps.{WorldState, Refusal, NoSuchActor, NoSuchDatagram, Forged, actor_of}

-- the actors of the configuration are there
pub record HasActors (w : WorldState) : Type 0 where
  pub replicas : length w.replicas ≡ w.config.replicas
  pub others : (k : Kind) → length (seats k w.others) ≡ count k w.config
  pub observers : length w.observers ≡ w.config.observers

abbrev pub is_one_of : Configuration → Who → Bool
is_one_of c (AReplica i) = nat_lt i c.replicas
is_one_of c (Another k i) = nat_lt i (count k c)
is_one_of c (AnObserver i) = nat_lt i c.observers

abbrev pub is_actor : Configuration → Actor → Bool
is_actor c actor = is_one_of c (who actor)

-- whether the actor of an event has such an input
abbrev pub has_input : Configuration → Event → Bool
has_input c (events.Tick actor tick) = takes_tick actor tick
has_input c (events.Install controller sequencer) = nat_lt sequencer c.sequencers
has_input c (events.Read client observer key) = nat_lt observer c.observers
has_input c _ = true

abbrev pub forged_if : Result Datagram Bad → Option Refusal
forged_if (Ok d) = Some Forged
forged_if (Err e) = None

-- what refuses an event whose actor has such an input
abbrev pub later_cause : WorldState → Event → Option Refusal
later_cause w (events.Deliver index actor) =
    if nat_lt index (length w.sent) then None else Some (NoSuchDatagram index (length w.sent))
later_cause w (events.Junk actor bytes) = forged_if (reading bytes)
later_cause w _ = None

abbrev pub cause_of : WorldState → Event → Option Refusal
cause_of w e =
    if is_actor w.config (actor_of e) && has_input w.config e then later_cause w e else Some NoSuchActor

-- the refusal that came, if any
abbrev pub refusal_in : {A : Type 0} → Result A Refusal → Option Refusal
refusal_in (Ok x) = None
refusal_in (Err refusal) = Some refusal
