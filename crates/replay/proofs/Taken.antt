-- An event that is drawn is not refused.
use Rattle.std.proofs.Common.{◌≡◌, ◌≤◌, ◌<◌, ◌-◌, ℕ, Bool, true, false, Option, Some, None, refl, sym, ap, subst, ◌∙◌, arith}
use Rattle.std.proofs.Common.{length, List, min}
use Rattle.std.specs.Prelude.{⊤, nat_lt, nat_le, ◌==◌, if◌then◌else◌, Result, Ok, slice_get}
use Rattle.std.proofs.lemmas.Bool.{lt-ltb}
use Rattle.rand_pcg.specs.Lcg.{Lcg}
use Rattle.nop_types.specs.Checkpoints.{KeepsTo}
use Rattle.nop_types.specs.Configuration.{Configuration}
use Rattle.nop_types.specs.Given.{Given, Packet, Ticked, Submit, Read}
use Rattle.nop_types.specs.Lists.{Has}
use Rattle.nop_types.specs.Meaning.{Meaning}
use Rattle.nop_types.specs.declared.input.Tick.{Tick}
use Rattle.nop_types.specs.declared.input.Tick.TheVariants as ticks
use Rattle.nop_types.specs.declared.output.Actor.{Actor}
use Rattle.nop_types.specs.declared.output.Actor.TheVariants as actors
use Rattle.nop_types.specs.declared.output.Dest.{Dest}
use Rattle.nop_types.specs.declared.output.Dest.TheVariants.{Replicas, Sequencers, One}
use Rattle.nop_types.specs.declared.output.Out.{Out}
use Rattle.lemmas.proofs.Places.{slice_get-some}
use Rattle.observer.specs.ObserverSteps as observer
use Rattle.replica_core.specs.ReplicaSteps as replica
use Rattle.schedule_text.specs.declared.event.Event.{Event}
use Rattle.schedule_text.specs.declared.event.Event.TheVariants as events
use Rattle.line_fields.specs.Fields.{IsActorOf}
use Rattle.schedule_text.specs.EventText.{HasWord, HasLine, IsEventOf}
use Rattle.schedule_text.specs.Fits.{EventFits}
use Rattle.schedule_text.specs.Ticks.{takes_tick}
use Rattle.network.specs.Network.{Sent, Did}
use Rattle.world.specs.Others.{next, seats, count, Who, AReplica, Another, AnObserver, who}
use Rattle.world.specs.Refusals.{HasActors}
use Rattle.world.specs.Seats.{Seated, Stimulus, Takes, Crashes}
use Rattle.world.specs.WorldSteps.{WorldState, Happened, Refusal, tick_if, read_if, datagram_at, stimulus_of, then_at, step_at, step_of, step}
use Rattle.world.specs.WorldSteps.{at_replica, at_other, at_observer}
use Rattle.replay.specs.Drawing.{draw, put_drawn, get_drawn, taker_drawn, delivery_drawn, back_drawn, deliver_drawn}
use Rattle.replay.specs.Drawing.{replica_tick_drawn, retry_drawn, crash_drawn, install_drawn, rare_drawn}
use Rattle.replay.specs.Drawing.{often_drawn, seldom_drawn, event_drawn}
use Rattle.replay.specs.Generated.{drawn_config}
use Rattle.replay.specs.Generating.{IsTaken, Led, MayDraw}
use Rattle.replay.specs.Destinations.{IsDestOf}
use Rattle.replay.proofs.Reaching.{Reached, events_reach, sent_to_actors}

-- ---- events that are not refused

-- a datagram that is delivered was sent; no junk
abbrev IsSent : List Sent → Event → Type 0
IsSent sent (events.Deliver index actor) = index < length sent
IsSent sent (events.Junk actor bytes) = ⊥
IsSent sent _ = ⊤

abbrev IsOneOf : Configuration → Who → Type 0
IsOneOf c (AReplica i) = i < c.replicas
IsOneOf c (Another k i) = i < count k c
IsOneOf c (AnObserver i) = i < c.observers

actor_there : (c : Configuration) (a : Actor) → IsActorOf c a → IsOneOf c (who a)
actor_there c (actors.Observer i) h = h
actor_there c _ h = h

seat_taken : {S : Type 0} (act : Seated S × Did → Happened) (next : S → Given → S × List Out) (xs : List (Seated S)) (i : ℕ)
    (what : Stimulus) → i < length xs → IsTaken (then_at act (step_at next (slice_get xs i) (Ok what)))
seat_taken act next xs i what l =
    let p = slice_get-some xs i l in
    (_, ap (λ o. then_at act (step_at next o (Ok what))) p.1)

module _ {S : Type 0} (m : Meaning S) (w : WorldState) (has : HasActors w) where
  seat_there : (x : Who) (what : Stimulus) → IsOneOf w.config x → IsTaken (step_of m w x (Ok what))
  seat_there (AReplica i) what h =
      seat_taken (at_replica w i) (replica.next m) w.replicas i what (omega (arith, h, has.replicas))
  seat_there (Another k i) what h =
      seat_taken (at_other k w i) (next k) (seats k w.others) i what (omega (arith, h, has.others k))
  seat_there (AnObserver i) what h =
      seat_taken (at_observer w i) (observer.next m) w.observers i what (omega (arith, h, has.observers))

  actor_taken : (a : Actor) (what : Stimulus) → IsActorOf w.config a → IsTaken (step_of m w (who a) (Ok what))
  actor_taken a what h = seat_there (who a) what (actor_there w.config a h)

  brought : (a : Actor) (r : Result Stimulus Refusal) (what : Stimulus) → r ≡ Ok what → IsActorOf w.config a
      → IsTaken (step_of m w (who a) r)
  brought a r what is h = subst (λ (x : Result Stimulus Refusal). IsTaken (step_of m w (who a) x)) (sym is) (actor_taken a what h)

  datagram_brought : (index : ℕ) → index < length w.sent
      → (s : Sent) × (datagram_at index (length w.sent) (slice_get w.sent index) ≡ Ok (Takes (Packet s.bytes)))
  datagram_brought index l = let s = slice_get-some w.sent index l in (s.0, ap (datagram_at index (length w.sent)) s.1)

  event_taken : (e : Event) → IsEventOf w.config e → IsSent w.sent e → IsTaken (step m w e)
  unfolding step stimulus_of
  event_taken (events.Submit n op) h sent = actor_taken (actors.Client n) (Takes (Submit op)) h
  event_taken (events.Deliver index a) h sent = let s = datagram_brought index sent in brought a _ _ s.1 h
  event_taken (events.Tick a t) h sent =
      brought a (tick_if (takes_tick a t) t) (Takes (Ticked t)) (ap (λ (b : Bool). tick_if b t) h.1) h.0
  event_taken (events.Install k j) h sent =
      brought (actors.Controller k) (tick_if (nat_lt j w.config.sequencers) (ticks.Install j)) (Takes (Ticked (ticks.Install j)))
      (ap (λ (b : Bool). tick_if b (ticks.Install j)) (lt-ltb j w.config.sequencers h.1)) h.0
  event_taken (events.Read n o key) h sent =
      brought (actors.Client n) (read_if (nat_lt o w.config.observers) o key) (Takes (Read o key))
      (ap (λ (b : Bool). read_if b o key) (lt-ltb o w.config.observers h.1)) h.0
  event_taken (events.Crash a) h sent = actor_taken a Crashes h
  event_taken (events.Junk a bytes) h sent = absurd sent

-- ---- events that are drawn

-- an event of the configuration, in its ranges, and of a datagram that was sent
record IsFine (sent : List Sent) (e : Event) : Type 0 where
  of : IsEventOf drawn_config e
  was_sent : IsSent sent e
  line : HasLine e
  fits : EventFits e

drawn_below : (n : ℕ) (g : Lcg) → 1 ≤ n → (draw n g).0 < n
unfolding draw
drawn_below n g some = omega arith

module _ (sent : List Sent) (some : 1 ≤ length sent) (all : (s : Sent) → Has sent s → IsDestOf drawn_config s.dest) where
  put_fine : (g : Lcg) → IsFine sent (put_drawn g).0
  put_fine g = record { of = drawn_below 4 g (omega arith); was_sent = tt; line = tt; fits = omega arith }

  get_fine : (g : Lcg) → IsFine sent (get_drawn g).0
  get_fine g = record { of = drawn_below 4 g (omega arith); was_sent = tt; line = tt; fits = omega arith }

  taker_there : (dest : Dest) (g : Lcg) → IsDestOf drawn_config dest → IsActorOf drawn_config (taker_drawn dest g).0
  taker_there Replicas g h = drawn_below 5 g (omega arith)
  taker_there Sequencers g h = drawn_below 2 g (omega arith)
  taker_there (One actor) g h = h

  delivery_fine : (index : ℕ) (s : Sent) (o : Option Sent) (g : Lcg) → index < length sent → slice_get sent index ≡ Some s → o ≡ Some s
      → IsFine sent (delivery_drawn index o g).0
  delivery_fine index s None g l there is = absurd cc
  delivery_fine index s (Some t) g l there is =
      let same : s ≡ t = cc in
      record {
        of = taker_there t.dest g (subst (λ (x : Sent). IsDestOf drawn_config x.dest) same (all s (index, there)));
        was_sent = l;
        line = tt;
        fits = tt;
      }

  deliver_fine : (g : Lcg) → IsFine sent (deliver_drawn sent g).0
  deliver_fine g =
      let back : ℕ = (back_drawn (length sent) g).0 in
      let low : back < min (length sent) 32 = drawn_below (min (length sent) 32) g (omega arith) in
      let within : length sent - 1 - back < length sent = omega arith in
      let s = slice_get-some sent (length sent - 1 - back) within in
      delivery_fine (length sent - 1 - back) s.0 (slice_get sent (length sent - 1 - back)) (back_drawn (length sent) g).1 within s.1 s.1

  replica_tick_fine : (t : Tick) (g : Lcg) → HasWord t → ((i : ℕ) → takes_tick (actors.Replica i) t ≡ true)
      → IsFine sent (replica_tick_drawn t g).0
  replica_tick_fine t g word takes = record {
    of = (drawn_below 5 g (omega arith), takes (draw 5 g).0);
    was_sent = tt;
    line = word;
    fits = tt;
  }

  retry_fine : (g : Lcg) → IsFine sent (retry_drawn g).0
  retry_fine g = record { of = (drawn_below 4 g (omega arith), refl); was_sent = tt; line = tt; fits = tt }

  crash_fine : (g : Lcg) → IsFine sent (crash_drawn g).0
  crash_fine g = let low = drawn_below 2 g (omega arith) in record { of = omega (arith, low); was_sent = tt; line = tt; fits = tt }

  install_fine : (g : Lcg) → IsFine sent (install_drawn g).0
  install_fine g = record { of = (omega arith, drawn_below 2 g (omega arith)); was_sent = tt; line = tt; fits = tt }

  crash_or_fine : (b : Bool) (g : Lcg) → IsFine sent ((if b then crash_drawn else install_drawn) g).0
  crash_or_fine true g = crash_fine g
  crash_or_fine false g = install_fine g

  rare_fine : (g : Lcg) → IsFine sent (rare_drawn g).0
  rare_fine g = crash_or_fine ((draw 16 g).0 == 0) (draw 16 g).1

  controller_fine : (t : Tick) → HasWord t → takes_tick (actors.Controller 0) t ≡ true → IsFine sent (events.Tick (actors.Controller 0) t)
  controller_fine t word takes = record { of = (omega arith, takes); was_sent = tt; line = word; fits = tt }

  -- the tests of the table in their order
  often_fine : (a b : Bool) (g : Lcg)
      → IsFine sent ((if a then put_drawn else if b then get_drawn else deliver_drawn sent) g).0
  often_fine true b g = put_fine g
  often_fine false true g = get_fine g
  often_fine false false g = deliver_fine g

  seldom_fine : (e f h i j k : Bool) (g : Lcg) → IsFine sent ((if e then replica_tick_drawn ticks.Resend
      else if f then replica_tick_drawn ticks.Sync else if h then retry_drawn else if i then replica_tick_drawn ticks.Suspect
      else if j then (λ (x : Lcg). (events.Tick (actors.Controller 0) ticks.Probe, x))
      else if k then (λ (x : Lcg). (events.Tick (actors.Controller 0) ticks.Resend, x)) else rare_drawn) g).0
  seldom_fine true f h i j k g = replica_tick_fine ticks.Resend g tt (λ n. refl)
  seldom_fine false true h i j k g = replica_tick_fine ticks.Sync g tt (λ n. refl)
  seldom_fine false false true i j k g = retry_fine g
  seldom_fine false false false true j k g = replica_tick_fine ticks.Suspect g tt (λ n. refl)
  seldom_fine false false false false true k g = controller_fine ticks.Probe tt refl
  seldom_fine false false false false false true g = controller_fine ticks.Resend tt refl
  seldom_fine false false false false false false g = rare_fine g

  by_fine : (b : Bool) (n : ℕ) (g : Lcg) → IsFine sent ((if b then often_drawn sent n else seldom_drawn n) g).0
  by_fine true n g = often_fine (nat_le n 19) (nat_le n 27) g
  by_fine false n g = seldom_fine (nat_le n 247) (nat_le n 249) (nat_le n 251) (n == 252) (n == 253) (n == 254) g

  drawn_fine : (g : Lcg) → IsFine sent (event_drawn sent g).0
  unfolding event_drawn
  drawn_fine g = by_fine (nat_le (draw 256 g).0 241) (draw 256 g).0 (draw 256 g).1

-- ---- in a world that events led to

-- the event is taken, in its ranges, of the configuration, and a schedule has a line for it
pub record GoesOn {S : Type 0} (m : Meaning S) (w : WorldState) (e : Event) : Type 0 where
  pub taken : IsTaken (step m w e)
  pub fits : EventFits e
  pub line : HasLine e
  pub of : IsEventOf drawn_config e

module _ {S : Type 0} (m : Meaning S) (IsSound : S → Type 0) (keeps : KeepsTo m IsSound) where
  reached : (es : List Event) (w : WorldState) (ls : List _) → Led m es w ls
      → Reached m drawn_config (record { world = w; lines = ls })
  reached es w ls led = events_reach m IsSound keeps drawn_config refl es (record { world = w; lines = ls }) led.fit led.is

  config_is : (h : Happened) → Reached m drawn_config h → h.world.config ≡ drawn_config
  config_is h r = r.at.both.beside.alike.config ∙ r.at.at.stands.same

  pub taken_there : (es : List Event) (w : WorldState) (ls : List _) (e : Event) → Led m es w ls → IsEventOf drawn_config e
      → IsSent w.sent e
      → IsTaken (step m w e)
  taken_there es w ls e led of sent =
      let r = reached es w ls led in
      event_taken m w r.actors e
      (subst (λ (k : Configuration). IsEventOf k e) (sym (config_is _ r)) of) sent

  pub drawn_goes_on : (w : WorldState) (g : Lcg) → MayDraw m w → GoesOn m w (event_drawn w.sent g).0
  drawn_goes_on w g may =
      let r = reached may.events w may.lines may.led in
      let fine = drawn_fine w.sent may.some (sent_to_actors m drawn_config (record { world = w; lines = may.lines }) r refl) g in
      record {
        taken = taken_there may.events w may.lines _ may.led fine.of fine.was_sent;
        fits = fine.fits;
        line = fine.line;
        of = fine.of;
      }
