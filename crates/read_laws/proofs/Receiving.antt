-- In each world of a run, what came to observers was sent by then, and what was sent stays.
use Rattle.std.proofs.Common.{◌≡◌, ℕ, Bool, true, false, List, [], ◌∷◌, ◌++◌, Some, refl, sym, subst}
use Rattle.std.specs.Prelude.{⊤, Result, Ok, Err, slice_get}
use Rattle.std.proofs.lemmas.List.{map-append}
use Rattle.nop_types.specs.Configuration.{Configuration}
use Rattle.nop_types.specs.Lines.{Line}
use Rattle.nop_types.specs.Lists.{Has}
use Rattle.nop_types.specs.Meaning.{Meaning}
use Rattle.nop_types.specs.declared.output.Actor.TheVariants as actors
use Rattle.observer.specs.ObserverSteps as observer
use Rattle.observer.specs.ObserverSteps.{Observer}
use Rattle.replica_core.specs.ReplicaSteps as replica
use Rattle.schedule_text.specs.declared.event.Event.{Event}
use Rattle.schedule_text.specs.Fits.{EventFits, EventsFit}
use Rattle.network.specs.Network.{Sent, sends_by}
use Rattle.world.specs.Others.{Who, AReplica, Another, AnObserver, next, seats, who, actor_at}
use Rattle.world.specs.Seats.{Seated, Stimulus, Takes, Crashes, moved_if, seat_step}
use Rattle.world.specs.WorldSteps.{WorldState, Happened, Refusal, actor_of, stimulus_of, at_replica, at_other, at_observer}
use Rattle.world.specs.WorldSteps.{step_of, step, go_on, run_from}
use Rattle.read_laws.specs.Received.{Received, bytes_of}
use Rattle.read_laws.specs.Runs.{ObserversReceived}
use Rattle.read_laws.proofs.Coming.{before_more, Delivers, event_delivers, received_goes_on, received_within}
use Rattle.read_laws.proofs.Seats.{seats_become, seat_leads}

-- behind what was sent before
record SentMore (t u : WorldState) : Type 0 where
  more : List Sent
  sent : u.sent ≡ t.sent ++ more

stays : (t u : WorldState) → SentMore t u → (b : List ℕ) → Has (bytes_of t.sent) b → Has (bytes_of u.sent) b
stays t u s b h =
    subst (λ (xs : List Sent). Has (bytes_of xs) b) (sym s.sent)
    (subst (λ (xs : List (List ℕ)). Has xs b) (sym (map-append (λ (x : Sent). x.bytes) t.sent s.more))
    (before_more (bytes_of t.sent) (bytes_of s.more) b h))

module _ {S : Type 0} (m : Meaning S) where
  -- ---- what was sent stays

  abbrev Anything : Stimulus → Type 0
  Anything what = ⊤

  abbrev MoreAfter : WorldState → Happened → Type 0
  MoreAfter t h = SentMore t h.world

  actor_sends : (t : WorldState) (x : Who) (r : Result Stimulus Refusal) (h : Happened) → step_of m t x r ≡ Ok h → SentMore t h.world
  actor_sends t (AReplica i) r h e =
      seat_leads (MoreAfter t) Anything (replica.next m) (at_replica t i) (slice_get t.replicas i) r h
      (λ p at what d. record { more = sends_by (actors.Replica i) (seat_step (replica.next m) p what).1; sent = refl }) (λ what is. tt) e
  actor_sends t (Another k i) r h e =
      seat_leads (MoreAfter t) Anything (next k) (at_other k t i) (slice_get (seats k t.others) i) r h
      (λ p at what d. record { more = sends_by (actor_at (Another k i)) (seat_step (next k) p what).1; sent = refl }) (λ what is. tt) e
  actor_sends t (AnObserver i) r h e =
      seat_leads (MoreAfter t) Anything (observer.next m) (at_observer t i) (slice_get t.observers i) r h
      (λ p at what d. record { more = sends_by (actors.Observer i) (seat_step (observer.next m) p what).1; sent = refl }) (λ what is. tt) e

  step_sends : (t : WorldState) (x : Event) (h : Happened) → step m t x ≡ Ok h → (b : List ℕ) → Has (bytes_of t.sent) b
      → Has (bytes_of h.world.sent) b
  unfolding step
  step_sends t x h e = stays t h.world (actor_sends t (who (actor_of x)) (stimulus_of t.config t.sent x) h e)

  goes_sends : (t : WorldState) (ls : List Line) (x : Event) (es : List Event) (h : Happened) (r : Result Happened Refusal) → step m t x ≡ r
      → ((v : WorldState) (more : List Line) → run_from m more v es ≡ Ok h → (b : List ℕ) → Has (bytes_of v.sent) b
      → Has (bytes_of h.world.sent) b)
      → go_on m ls r (λ more v. run_from m more v es) ≡ Ok h → (b : List ℕ) → Has (bytes_of t.sent) b → Has (bytes_of h.world.sent) b
  goes_sends t ls x es h (Err refusal) is rest e b has = absurd cc
  goes_sends t ls x es h (Ok g) is rest e b has = rest g.world (ls ++ g.lines) e b (step_sends t x g is b has)

  pub run_sends : (es : List Event) (t : WorldState) (ls : List Line) (h : Happened) → run_from m ls t es ≡ Ok h → (b : List ℕ)
      → Has (bytes_of t.sent) b → Has (bytes_of h.world.sent) b
  run_sends [] t ls h e b has =
      let same : record { world = t; lines = ls } ≡ h = cc in subst (λ (g : Happened). Has (bytes_of g.world.sent) b) same has
  run_sends (x ∷ es) t ls h e b has =
      goes_sends t ls x es h (step m t x) refl (λ v more g c k. run_sends es v more h g c k) e b has

module _ {S : Type 0} (m : Meaning S) (config : Configuration) where
  -- ---- what came to observers

  module _ (t : WorldState) (all : ObserversReceived m config t) where
    later : (u : WorldState) (more : List Sent) → u.sent ≡ t.sent ++ more
        → ((i : ℕ) (p : Seated Observer) → slice_get u.observers i ≡ Some p → Received m config (bytes_of t.sent) i p.state)
        → ObserversReceived m config u
    later u more sent each i p at =
        received_within m config (bytes_of t.sent) (bytes_of u.sent) i p.state (stays t u (record { more = more; sent = sent })) (each i p at)

    seat_receives : (i : ℕ) (p : Seated Observer) → slice_get t.observers i ≡ Some p → (b : Bool) (what : Stimulus)
        → Delivers (bytes_of t.sent) what → Received m config (bytes_of t.sent) i (moved_if (observer.next m) b p what).0.state
    seat_receives i p at true what d = all i p at
    seat_receives i p at false (Takes x) d = received_goes_on m config (bytes_of t.sent) i p.state x (all i p at) d.0
    seat_receives i p at false Crashes d = all i p at

    observer_receives : (i : ℕ) (p : Seated Observer) → slice_get t.observers i ≡ Some p → (what : Stimulus)
        → Delivers (bytes_of t.sent) what → ObserversReceived m config (at_observer t i (seat_step (observer.next m) p what)).world
    observer_receives i p at what d =
        later (at_observer t i (seat_step (observer.next m) p what)).world
        (sends_by (actors.Observer i) (seat_step (observer.next m) p what).1) refl
        (seats_become {A = Observer} (λ j s. Received m config (bytes_of t.sent) j s) (λ j s. Received m config (bytes_of t.sent) j s)
        t.observers i (seat_step (observer.next m) p what).0 (seat_receives i p at p.crashed what d) (λ j s other h. h) all)

    abbrev ReceivedAfter : Happened → Type 0
    ReceivedAfter h = ObserversReceived m config h.world

    actor_receives : (x : Who) (r : Result Stimulus Refusal) (h : Happened)
        → ((what : Stimulus) → r ≡ Ok what → Delivers (bytes_of t.sent) what) → step_of m t x r ≡ Ok h → ObserversReceived m config h.world
    actor_receives (AReplica i) r h delivers e =
        seat_leads ReceivedAfter (Delivers (bytes_of t.sent)) (replica.next m) (at_replica t i) (slice_get t.replicas i) r h
        (λ p at what d. later (at_replica t i (seat_step (replica.next m) p what)).world
        (sends_by (actors.Replica i) (seat_step (replica.next m) p what).1) refl all) delivers e
    actor_receives (Another k i) r h delivers e =
        seat_leads ReceivedAfter (Delivers (bytes_of t.sent)) (next k) (at_other k t i) (slice_get (seats k t.others) i) r h
        (λ p at what d. later (at_other k t i (seat_step (next k) p what)).world
        (sends_by (actor_at (Another k i)) (seat_step (next k) p what).1) refl all) delivers e
    actor_receives (AnObserver i) r h delivers e =
        seat_leads ReceivedAfter (Delivers (bytes_of t.sent)) (observer.next m) (at_observer t i) (slice_get t.observers i) r h
        (λ p at what d. observer_receives i p at what d) delivers e

  pub step_receives : (t : WorldState) (x : Event) (h : Happened) → ObserversReceived m config t → EventFits x → step m t x ≡ Ok h
      → ObserversReceived m config h.world
  unfolding step
  step_receives t x h all fits e =
      actor_receives t all (who (actor_of x)) (stimulus_of t.config t.sent x) h (λ what is. event_delivers t.sent t.config x what fits is) e

  goes_receives : (t : WorldState) (ls : List Line) (x : Event) (es : List Event) (h : Happened) → EventFits x
      → ObserversReceived m config t
      → ((v : WorldState) (more : List Line) → ObserversReceived m config v → run_from m more v es ≡ Ok h → ObserversReceived m config h.world)
      → (r : Result Happened Refusal) → step m t x ≡ r → go_on m ls r (λ more v. run_from m more v es) ≡ Ok h
      → ObserversReceived m config h.world
  goes_receives t ls x es h fits all rest (Err refusal) is e = absurd cc
  goes_receives t ls x es h fits all rest (Ok g) is e = rest g.world (ls ++ g.lines) (step_receives t x g all fits is) e

  pub run_receives : (es : List Event) (t : WorldState) (ls : List Line) (h : Happened) → EventsFit es → ObserversReceived m config t
      → run_from m ls t es ≡ Ok h → ObserversReceived m config h.world
  run_receives [] t ls h fits all e =
      let same : record { world = t; lines = ls } ≡ h = cc in subst (λ (g : Happened). ObserversReceived m config g.world) same all
  run_receives (x ∷ es) t ls h fits all e =
      goes_receives t ls x es h fits.0 all (λ v more a g. run_receives es v more h fits.1 a g) (step m t x) refl e
