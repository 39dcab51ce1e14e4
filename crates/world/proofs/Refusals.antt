-- Which events are refused, and why.
use Rattle.std.proofs.Common.{◌≡◌, ℕ, zero, suc, Bool, true, false, List, [], ◌∷◌, length, Option, Some, None, Result, Ok, Err}
use Rattle.std.proofs.Common.{refl, ap, subst, ◌∙◌, arith, length-append}
use Rattle.std.specs.Prelude.{◌&&◌, if◌then◌else◌, nat_lt, slice_get, slice_set}
use Rattle.std.proofs.lemmas.Bool.{ltb-true, ltb-false}
use Rattle.std.proofs.lemmas.List.{length-set}
use Rattle.std.proofs.lemmas.Option.{slice_get_past}
use Rattle.nop_types.specs.Configuration.{Configuration}
use Rattle.nop_types.specs.Given.{Given}
use Rattle.nop_types.specs.Meaning.{Meaning}
use Rattle.nop_types.specs.declared.datagram.Datagram.{Datagram}
use Rattle.nop_types.specs.declared.input.Tick.{Tick}
use Rattle.nop_types.specs.declared.input.Tick.TheVariants as ticks
use Rattle.nop_types.specs.declared.output.Out.{Out}
use Rattle.lemmas.proofs.Places.{slice_get-some}
use Rattle.oum_codec.specs.declared.bad.Bad.{Bad}
use Rattle.oum_codec.specs.Reading.{reading}
use Rattle.replica_core.specs.ReplicaSteps as replica
use Rattle.sequencer.specs.SequencerSteps as sequencer
use Rattle.session_control.specs.ControllerSteps as controller
use Rattle.observer.specs.ObserverSteps as observer
use Rattle.schedule_text.specs.declared.event.Event.{Event}
use Rattle.schedule_text.specs.declared.event.Event.TheVariants as events
use Rattle.network.specs.Network.{Sent, Did}
use Rattle.world.specs.Seats.{Seated, Stimulus, seated}
use Rattle.world.specs.Others.{Kind, Sequencers, Clients, Controllers, next, seats, count, Who, AReplica, Another, AnObserver, who}
use Rattle.world.specs.Refusals.{HasActors, is_one_of, is_actor, has_input, forged_if, later_cause, cause_of, refusal_in}
use Rattle.world.specs.WorldSteps.{WorldState, Refusal, NoSuchActor, NoSuchDatagram, Happened, actor_of, numbered_seats, opening}
use Rattle.world.specs.WorldSteps.{opening_client, tick_if, read_if, datagram_at, junk_of, stimulus_of, step_with, step_at, step_of, step}
use Rattle.world.specs.WorldSteps.{at_replica, at_other, at_observer, then_at, opening_others}
use Rattle.world.proofs.Others.{others_become}

-- ---- the actor

module _ {S : Type 0} (next : S → Given → S × List Out) where
  with_refusal : (p : Seated S) (what : Result Stimulus Refusal) → refusal_in (step_with next p what) ≡ refusal_in what
  with_refusal p (Ok x) = refl
  with_refusal p (Err refusal) = refl

  -- of the actor with a number, of n actors
  at_refusal : (xs : List (Seated S)) (i n : ℕ) (what : Result Stimulus Refusal) → length xs ≡ n
      → refusal_in (step_at next (slice_get xs i) what) ≡ (if nat_lt i n then refusal_in what else Some NoSuchActor)
  at_refusal xs i n what len = by (nat_lt i n) refl
    where
      by : (b : Bool) → nat_lt i n ≡ b → refusal_in (step_at next (slice_get xs i) what) ≡ (if b then refusal_in what else Some NoSuchActor)
      by true e =
          let found = slice_get-some xs i (omega (arith, ltb-true i n e, len)) in
          ap (λ (o : Option (Seated S)). refusal_in (step_at next o what)) found.1 ∙ with_refusal found.0 what
      by false e =
          ap (λ (o : Option (Seated S)). refusal_in (step_at next o what)) (slice_get_past xs i (omega (arith, ltb-false i n e, len)))

then_refusal : {S : Type 0} (f : Seated S × Did → Happened) (r : Result (Seated S × Did) Refusal) → refusal_in (then_at f r) ≡ refusal_in r
then_refusal f (Ok p) = refl
then_refusal f (Err refusal) = refl

actor_refusal : {S : Type 0} (m : Meaning S) (w : WorldState) (x : Who) (what : Result Stimulus Refusal) → HasActors w
    → refusal_in (step_of m w x what) ≡ (if is_one_of w.config x then refusal_in what else Some NoSuchActor)
actor_refusal m w (AReplica i) what h =
    then_refusal (at_replica w i) _ ∙ at_refusal (replica.next m) w.replicas i w.config.replicas what h.replicas
actor_refusal m w (Another k i) what h =
    then_refusal (at_other k w i) _ ∙ at_refusal (next k) (seats k w.others) i (count k w.config) what (h.others k)
actor_refusal m w (AnObserver i) what h =
    then_refusal (at_observer w i) _ ∙ at_refusal (observer.next m) w.observers i w.config.observers what h.observers

-- ---- what the event delivers

tick_refusal : (b : Bool) (tick : Tick) → refusal_in (tick_if b tick) ≡ (if b then None else Some NoSuchActor)
tick_refusal true tick = refl
tick_refusal false tick = refl

read_refusal : (b : Bool) (observer : ℕ) (key : List ℕ) → refusal_in (read_if b observer key) ≡ (if b then None else Some NoSuchActor)
read_refusal true observer key = refl
read_refusal false observer key = refl

datagram_refusal : (sent : List Sent) (index : ℕ)
    → refusal_in (datagram_at index (length sent) (slice_get sent index))
    ≡ (if nat_lt index (length sent) then None else Some (NoSuchDatagram index (length sent)))
datagram_refusal sent index = by (nat_lt index (length sent)) refl
  where
    by : (b : Bool) → nat_lt index (length sent) ≡ b
        → refusal_in (datagram_at index (length sent) (slice_get sent index))
        ≡ (if b then None else Some (NoSuchDatagram index (length sent)))
    by true e =
        let found = slice_get-some sent index (ltb-true index (length sent) e) in
        ap (λ (o : Option Sent). refusal_in (datagram_at index (length sent) o)) found.1
    by false e =
        ap (λ (o : Option Sent). refusal_in (datagram_at index (length sent) o))
        (slice_get_past sent index (ltb-false index (length sent) e))

junk_refusal : (bytes : List ℕ) (r : Result Datagram Bad) → refusal_in (junk_of bytes r) ≡ forged_if r
junk_refusal bytes (Ok d) = refl
junk_refusal bytes (Err e) = refl

input_refusal : (w : WorldState) (e : Event)
    → refusal_in (stimulus_of w.config w.sent e) ≡ (if has_input w.config e then later_cause w e else Some NoSuchActor)
unfolding stimulus_of
input_refusal w (events.Deliver index actor) = datagram_refusal w.sent index
input_refusal w (events.Tick actor tick) = tick_refusal _ tick
input_refusal w (events.Install controller sequencer) = tick_refusal (nat_lt sequencer w.config.sequencers) (ticks.Install sequencer)
input_refusal w (events.Read client observer key) = read_refusal (nat_lt observer w.config.observers) observer key
input_refusal w (events.Junk actor bytes) = junk_refusal bytes (reading bytes)
input_refusal w _ = refl

-- ---- both

one_test : (a b : Bool) (x y : Option Refusal) → (if a then (if b then x else y) else y) ≡ (if a && b then x else y)
one_test true b x y = refl
one_test false b x y = refl

pub refuses_by_cause : {S : Type 0} (m : Meaning S) (w : WorldState) (e : Event) → HasActors w → refusal_in (step m w e) ≡ cause_of w e
unfolding step
refuses_by_cause m w e h =
    actor_refusal m w (who (actor_of e)) (stimulus_of w.config w.sent e) h
    ∙ ap (λ (r : Option Refusal). if is_actor w.config (actor_of e) then r else Some NoSuchActor) (input_refusal w e)
    ∙ one_test (is_actor w.config (actor_of e)) (has_input w.config e) (later_cause w e) (Some NoSuchActor)

-- ---- the actors are there

length-counted : {S : Type 0} (make : ℕ → S) (n : ℕ) → length (numbered_seats make n) ≡ n
length-counted make zero = refl
length-counted make (suc n) = omega (arith, length-append (numbered_seats make n) (seated (make n) ∷ []), length-counted make n)

pub opening_has_actors : (c : Configuration) → HasActors (opening c)
opening_has_actors c = record {
  replicas = length-counted (replica.opening c) c.replicas;
  others = λ k. others_opened k;
  observers = length-counted (observer.opening c) c.observers;
}
  where
    others_opened : (k : Kind) → length (seats k (opening_others c)) ≡ count k c
    others_opened Sequencers = length-counted sequencer.opening c.sequencers
    others_opened Clients = length-counted (opening_client c) c.clients
    others_opened Controllers = length-counted (controller.opening c) c.controllers

then_has_actors : {S : Type 0} (f : Seated S × Did → Happened) (r : Result (Seated S × Did) Refusal) (h : Happened)
    → ((p : Seated S × Did) → HasActors (f p).world) → then_at f r ≡ Ok h → HasActors h.world
then_has_actors f (Ok p) h all e = let same : f p ≡ h = cc in subst (λ (x : Happened). HasActors x.world) same (all p)
then_has_actors f (Err refusal) h all e = absurd cc

step_of_has_actors : {S : Type 0} (m : Meaning S) (w : WorldState) (x : Who) (what : Result Stimulus Refusal) (h : Happened)
    → HasActors w → step_of m w x what ≡ Ok h → HasActors h.world
step_of_has_actors m w (AReplica i) what h has e = then_has_actors (at_replica w i) _ h
    (λ p. record { replicas = length-set w.replicas i p.0 ∙ has.replicas; others = has.others; observers = has.observers }) e
step_of_has_actors m w (Another k i) what h has e = then_has_actors (at_other k w i) _ h
    (λ p. record {
      replicas = has.replicas;
      others = others_become (λ j ps. length ps ≡ count j w.config) w.others k (slice_set (seats k w.others) i p.0)
          (length-set (seats k w.others) i p.0 ∙ has.others k) has.others;
      observers = has.observers;
    }) e
step_of_has_actors m w (AnObserver i) what h has e = then_has_actors (at_observer w i) _ h
    (λ p. record { replicas = has.replicas; others = has.others; observers = length-set w.observers i p.0 ∙ has.observers }) e

pub step_has_actors : {S : Type 0} (m : Meaning S) (w : WorldState) (e : Event) (h : Happened) → HasActors w → step m w e ≡ Ok h
    → HasActors h.world
unfolding step
step_has_actors m w e h has is = step_of_has_actors m w (who (actor_of e)) (stimulus_of w.config w.sent e) h has is
