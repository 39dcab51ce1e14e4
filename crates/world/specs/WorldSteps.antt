-- The world: all actors and the network, and one event as one step of one actor.
use Rattle.std.specs.Prelude.{ℕ, zero, suc, List, [], ◌∷◌, ◌++◌, length, map, Bool, true, false, Option, Some, None, Result, Ok, Err}
use Rattle.std.specs.Prelude.{cond, slice_get, slice_set, nat_lt, if◌then◌else◌}
use Rattle.nop_types.specs.Configuration.{Configuration}
use Rattle.nop_types.specs.Meaning.{Meaning}
use Rattle.nop_types.specs.Given.{Given, Packet, Ticked, Submit, Read}
use Rattle.nop_types.specs.Lines.{Line}
use Rattle.nop_types.specs.Views.{leader_of, outranks, first_view}
use Rattle.nop_types.specs.Histories.{history_of}
use Rattle.nop_types.specs.declared.datagram.Datagram.{Datagram}
use Rattle.nop_types.specs.declared.input.Tick.{Tick}
use Rattle.nop_types.specs.declared.input.Tick.TheVariants as ticks
use Rattle.nop_types.specs.declared.view.View.{View}
use Rattle.nop_types.specs.declared.request.Request.{Request}
use Rattle.nop_types.specs.declared.request.Entry.{Entry}
use Rattle.nop_types.specs.declared.output.Actor.{Actor}
use Rattle.nop_types.specs.declared.output.Actor.TheVariants as actors
use Rattle.nop_types.specs.declared.output.Out.{Out}
use Rattle.oum_codec.specs.declared.bad.Bad.{Bad}
use Rattle.oum_codec.specs.Reading.{reading}
use Rattle.replica_core.specs.ReplicaSteps as replica
use Rattle.replica_core.specs.ReplicaSteps.{Replica}
use Rattle.sequencer.specs.SequencerSteps as sequencer
use Rattle.client_quorum.specs.Core as client
use Rattle.observer.specs.ObserverSteps as observer
use Rattle.observer.specs.ObserverSteps.{Observer}
use Rattle.session_control.specs.ControllerSteps as controller
use Rattle.schedule_text.specs.declared.event.Event.{Event}
use Rattle.schedule_text.specs.declared.event.Event.TheVariants as events
use Rattle.schedule_text.specs.Ticks.{takes_tick}
use Rattle.world.specs.Others.{Kind, State, next, Others, seats, with_seat, Who, AReplica, Another, AnObserver, who, actor_at}
use Rattle.world.specs.Seats.{Seated, Stimulus, Takes, Crashes, seated, seat_step}
use Rattle.network.specs.Network.{Did, Sent, sends_by, lines_by}
use Rattle.world.specs.Archive.{archived, with_archive}
use Rattle.nop_types.specs.Lists.{slot_of}

pub record WorldState : Type 0 where
  pub config : Configuration
  pub replicas : List (Seated Replica)
  pub others : Others
  pub observers : List (Seated Observer)
  pub sent : List Sent
  -- the synchronised entries that moved out of logs, from slot 1 on
  pub archive : List Entry

-- the actor is not of the configuration, or has no such input; no datagram has this number; or the junk spells a datagram
pub data Refusal : Type 0 where
  NoSuchActor : Refusal
  NoSuchDatagram : (index sent : ℕ) → Refusal
  Forged : Refusal

-- the world after an event, and the event's lines
pub record Happened : Type 0 where
  pub world : WorldState
  pub lines : List Line

-- ---- what an event delivers to its actor

abbrev pub actor_of : Event → Actor
actor_of (events.Submit client op) = actors.Client client
actor_of (events.Deliver index actor) = actor
actor_of (events.Tick actor tick) = actor
actor_of (events.Install controller sequencer) = actors.Controller controller
actor_of (events.Read client observer key) = actors.Client client
actor_of (events.Crash actor) = actor
actor_of (events.Junk actor bytes) = actor

abbrev pub tick_if : Bool → Tick → Result Stimulus Refusal
tick_if true tick = Ok (Takes (Ticked tick))
tick_if false tick = Err NoSuchActor

-- a key, of an observer that is there
abbrev pub read_if : Bool → (observer : ℕ) → (key : List ℕ) → Result Stimulus Refusal
read_if is_there observer key = cond is_there (Ok (Takes (Read observer key))) (Err NoSuchActor)

-- the datagram with an index, where `count` were sent
abbrev pub datagram_at : ℕ → ℕ → Option Sent → Result Stimulus Refusal
datagram_at index count None = Err (NoSuchDatagram index count)
datagram_at index count (Some s) = Ok (Takes (Packet s.bytes))

-- bytes that spell no datagram
abbrev pub junk_of : List ℕ → Result Datagram Bad → Result Stimulus Refusal
junk_of bytes (Ok d) = Err Forged
junk_of bytes (Err e) = Ok (Takes (Packet bytes))

-- what an event delivers, in a configuration and where these datagrams were sent
unfoldable pub stimulus_of : Configuration → List Sent → Event → Result Stimulus Refusal
stimulus_of c sent (events.Submit number op) = Ok (Takes (Submit op))
stimulus_of c sent (events.Deliver index actor) = datagram_at index (length sent) (slice_get sent index)
stimulus_of c sent (events.Tick actor tick) = tick_if (takes_tick actor tick) tick
stimulus_of c sent (events.Install controller sequencer) = tick_if (nat_lt sequencer c.sequencers) (ticks.Install sequencer)
stimulus_of c sent (events.Read client observer key) = read_if (nat_lt observer c.observers) observer key
stimulus_of c sent (events.Crash actor) = Ok Crashes
stimulus_of c sent (events.Junk actor bytes) = junk_of bytes (reading bytes)

-- ---- what an actor did

abbrev pub carried : WorldState → Actor → Did → WorldState → Happened
carried old from did new = record
    { world = record new { sent = old.sent ++ sends_by from did }; lines = lines_by from (length old.sent) did }

abbrev pub at_replica : WorldState → ℕ → Seated Replica × Did → Happened
at_replica w i p =
    carried w (actors.Replica i) p.1 (record w { replicas = slice_set w.replicas i p.0; archive = archived w.archive p.1 })

abbrev pub at_other : (k : Kind) → WorldState → ℕ → Seated (State k) × Did → Happened
at_other k w i p = carried w (actor_at (Another k i)) p.1 (record w { others = with_seat k w.others i p.0 })

abbrev pub at_observer : WorldState → ℕ → Seated Observer × Did → Happened
at_observer w i p = carried w (actors.Observer i) p.1 (record w { observers = slice_set w.observers i p.0 })

-- what an actor's step makes of the world, unless the event is refused
abbrev pub then_at : {S : Type 0} → (Seated S × Did → Happened) → Result (Seated S × Did) Refusal → Result Happened Refusal
then_at f (Err refusal) = Err refusal
then_at f (Ok p) = Ok (f p)

abbrev pub step_with : {S : Type 0} → (S → Given → S × List Out) → Seated S → Result Stimulus Refusal → Result (Seated S × Did) Refusal
step_with next p (Err refusal) = Err refusal
step_with next p (Ok what) = Ok (seat_step next p what)

-- the actor is looked up first
abbrev pub step_at : {S : Type 0} → (S → Given → S × List Out) → Option (Seated S) → Result Stimulus Refusal
    → Result (Seated S × Did) Refusal
step_at next None what = Err NoSuchActor
step_at next (Some p) what = step_with next p what

-- ---- events

module _ {S : Type 0} (m : Meaning S) where
  -- the step of an actor
  abbrev pub step_of : WorldState → Who → Result Stimulus Refusal → Result Happened Refusal
  step_of w (AReplica i) what = then_at (at_replica w i) (step_at (replica.next m) (slice_get w.replicas i) what)
  step_of w (Another k i) what = then_at (at_other k w i) (step_at (next k) (slice_get (seats k w.others) i) what)
  step_of w (AnObserver i) what = then_at (at_observer w i) (step_at (observer.next m) (slice_get w.observers i) what)

  -- one event is one step of one actor, unless it is refused
  unfoldable pub step : WorldState → Event → Result Happened Refusal
  step w e = step_of w (who (actor_of e)) (stimulus_of w.config w.sent e)

  -- the worlds and lines of a list of events, up to the first that is refused
  abbrev pub go_on : List Line → Result Happened Refusal → (List Line → WorldState → Result Happened Refusal) → Result Happened Refusal
  go_on lines (Err refusal) f = Err refusal
  go_on lines (Ok h) f = f (lines ++ h.lines) h.world

  abbrev pub run_from : List Line → WorldState → List Event → Result Happened Refusal
  run_from lines w [] = Ok (record { world = w; lines = lines })
  run_from lines w (e ∷ es) = go_on lines (step w e) (λ more v. run_from more v es)

-- ---- the opening

abbrev pub numbered_seats : {S : Type 0} → (ℕ → S) → ℕ → List (Seated S)
numbered_seats make zero = []
numbered_seats make (suc n) = numbered_seats make n ++ seated (make n) ∷ []

-- no client has ops of its own
abbrev pub opening_client : Configuration → ℕ → client.Client
opening_client c number = client.opening c number []

abbrev pub opening_others : Configuration → Others
opening_others c =
    record {
      sequencers = numbered_seats sequencer.opening c.sequencers;
      clients = numbered_seats (opening_client c) c.clients;
      controllers = numbered_seats (controller.opening c) c.controllers;
    }

abbrev pub opening : Configuration → WorldState
opening c =
    record {
      config = c;
      replicas = numbered_seats (replica.opening c) c.replicas;
      others = opening_others c;
      observers = numbered_seats (observer.opening c) c.observers;
      sent = [];
      archive = [];
    }

-- the world after the events, and all their lines
abbrev pub run : {S : Type 0} → Meaning S → Configuration → List Event → Result Happened Refusal
run m c es = run_from m [] (opening c) es

-- ---- what is read from a world

-- the greatest by session, then by leader number
abbrev pub greatest_view : View → List View → View
greatest_view v [] = v
greatest_view v (w ∷ ws) = greatest_view (if outranks w v then w else v) ws

abbrev pub greatest_of : List View → View
greatest_of [] = first_view
greatest_of (v ∷ vs) = greatest_view v vs

-- the greatest last normal view among all replicas, crashed ones too
unfoldable pub main_view : WorldState → View
main_view w = greatest_of (map (λ p. p.state.state.last_normal) w.replicas)

-- all entries of a replica's log
abbrev pub log_of : List Entry → Option (Seated Replica) → List Entry
log_of archive None = []
log_of archive (Some p) = with_archive archive p.state.state.log

-- the log of that view's leader
unfoldable pub main_log : WorldState → List Entry
main_log w = log_of w.archive (slice_get w.replicas (leader_of (main_view w) w.config.replicas))

-- its requests that are executed, in order
abbrev pub history : WorldState → List Request
history w = history_of (main_log w)

-- what is in a slot of a replica's log, if anything
abbrev pub entry : WorldState → ℕ → ℕ → Option Entry
entry w i slot = slot_of (log_of w.archive (slice_get w.replicas i)) slot

abbrev pub crashed_in : {S : Type 0} → Option (Seated S) → Bool
crashed_in None = false
crashed_in (Some p) = p.crashed

abbrev pub crashed_by : WorldState → Who → Bool
crashed_by w (AReplica i) = crashed_in (slice_get w.replicas i)
crashed_by w (Another k i) = crashed_in (slice_get (seats k w.others) i)
crashed_by w (AnObserver i) = crashed_in (slice_get w.observers i)

-- whether an actor crashed, false for an actor that is not of the configuration
abbrev pub has_crashed : WorldState → Actor → Bool
has_crashed w actor = crashed_by w (who actor)
