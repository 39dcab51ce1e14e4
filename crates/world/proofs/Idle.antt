-- Events that change nothing.
use Rattle.std.proofs.Common.{◌≡◌, ℕ, Bool, true, false, List, [], ◌∷◌, ◌++◌, Option, Some, None, Result, Ok, Err, refl, sym, ap, ◌∙◌}
use Rattle.std.specs.Prelude.{slice_get, slice_set}
use Rattle.std.proofs.lemmas.List.{append-nil}
use Rattle.nop_types.specs.Given.{Given, Packet}
use Rattle.nop_types.specs.Lines.{Dead}
use Rattle.nop_types.specs.Meaning.{Meaning}
use Rattle.nop_types.specs.declared.datagram.Datagram.{Datagram}
use Rattle.nop_types.specs.declared.request.Entry.{Entry}
use Rattle.nop_types.specs.declared.output.Actor.{Actor}
use Rattle.nop_types.specs.declared.output.Actor.TheVariants as actors
use Rattle.nop_types.specs.declared.output.Out.{Out}
use Rattle.oum_codec.specs.declared.bad.Bad.{Bad}
use Rattle.oum_codec.specs.Reading.{reading}
use Rattle.client_reads.specs.ReadSteps as reads
use Rattle.client_quorum.specs.ClientSteps as requests
use Rattle.client_quorum.specs.Core.{Client}
use Rattle.replica_core.specs.ReplicaSteps as replica
use Rattle.replica_core.specs.ReplicaSteps.{Replica}
use Rattle.sequencer.specs.SequencerSteps as sequencer
use Rattle.session_control.specs.ControllerSteps as controller
use Rattle.observer.specs.ObserverSteps as observer
use Rattle.observer.specs.ObserverSteps.{Observer}
use Rattle.schedule_text.specs.declared.event.Event.{Event}
use Rattle.schedule_text.specs.declared.event.Event.TheVariants.{Junk}
use Rattle.network.specs.Network.{Sent, sends_by, Did, Nothing, Outputs}
use Rattle.world.specs.Archive.{archived}
use Rattle.world.specs.Others.{Kind, Sequencers, Clients, Controllers, State, next, Others, seats}
use Rattle.world.specs.Others.{with_seat, Who, AReplica, Another, AnObserver, who, actor_at}
use Rattle.world.specs.Seats.{Seated, Stimulus, Takes, seated, moved_if}
use Rattle.world.specs.WorldSteps.{WorldState, Refusal, Happened, actor_of, junk_of, stimulus_of, crashed_in, crashed_by}
use Rattle.world.specs.WorldSteps.{has_crashed, at_replica, at_other, at_observer, then_at, step_at, step_of, step}
use Rattle.world.proofs.Others.{actor_who, seat_found}
use Rattle.world.proofs.Places.{slice_set-found}

-- ---- an actor that stays as it is, sends nothing and moves nothing out of its log

pub record IsSilent (did : Did) : Type 0 where
  pub unsent : (from : Actor) → sends_by from did ≡ []
  pub unkept : (archive : List Entry) → archived archive did ≡ archive

nothing_is_silent : IsSilent Nothing
nothing_is_silent = record { unsent = λ from. refl; unkept = λ archive. refl }

no_outputs_are_silent : IsSilent (Outputs [])
no_outputs_are_silent = record { unsent = λ from. refl; unkept = λ archive. refl }

pub record Idles {S : Type 0} (f : Seated S × Did → Happened) (o : Option (Seated S)) (h : Happened) (did : Did) : Type 0 where
  pub seat : Seated S
  pub found : o ≡ Some seat
  pub is : h ≡ f (seat, did)

module _ (w : WorldState) (did : Did) (silent : IsSilent did) where
  unsent : (from : Actor) → w.sent ++ sends_by from did ≡ w.sent
  unsent from = ap (λ (more : List Sent). w.sent ++ more) (silent.unsent from) ∙ append-nil w.sent

  stays : (v : WorldState) (from : Actor) → v ≡ w → record v { sent = w.sent ++ sends_by from did } ≡ w
  stays v from same = ap (λ (u : WorldState). record u { sent = w.sent ++ sends_by from did }) same
      ∙ ap (λ (s : List Sent). record w { sent = s }) (unsent from)

  replica_idles : (i : ℕ) (p : Seated Replica) → slice_get w.replicas i ≡ Some p → (at_replica w i (p, did)).world ≡ w
  replica_idles i p found = stays (record w { replicas = slice_set w.replicas i p; archive = archived w.archive did }) (actors.Replica i)
      (λ j. record w { replicas = slice_set-found w.replicas i p found j; archive = silent.unkept w.archive j })

  other_idles : (k : Kind) (i : ℕ) (p : Seated (State k)) → slice_get (seats k w.others) i ≡ Some p
      → (at_other k w i (p, did)).world ≡ w
  other_idles k i p found = stays (record w { others = with_seat k w.others i p }) (actor_at (Another k i))
      (ap (λ (o : Others). record w { others = o }) (seat_found k w.others i p found))

  observer_idles : (i : ℕ) (p : Seated Observer) → slice_get w.observers i ≡ Some p → (at_observer w i (p, did)).world ≡ w
  observer_idles i p found = stays (record w { observers = slice_set w.observers i p }) (actors.Observer i)
      (ap (λ (ps : List (Seated Observer)). record w { observers = ps }) (slice_set-found w.observers i p found))

-- ---- a crashed actor

rests : {S : Type 0} (next : S → Given → S × List Out) (f : Seated S × Did → Happened) (o : Option (Seated S))
    (what : Result Stimulus Refusal) (h : Happened) → crashed_in o ≡ true → then_at f (step_at next o what) ≡ Ok h → Idles f o h Nothing
rests next f None what h c e = absurd cc
rests next f (Some p) (Err refusal) h c e = absurd cc
rests {S} next f (Some p) (Ok x) h c e =
    let same : f (moved_if next p.crashed p x) ≡ h = cc in
    let rest : f (moved_if next p.crashed p x) ≡ f (p, Nothing) = ap (λ (b : Bool). f (moved_if next b p x)) c in
    record { seat = p; found = refl; is = sym same ∙ rest }

dead : (w v : WorldState) (actor : Actor) (h : Happened) → h ≡ record { world = v; lines = Dead actor ∷ [] } → v ≡ w
    → h ≡ record { world = w; lines = Dead actor ∷ [] }
dead w v actor h e same = e ∙ ap (λ (u : WorldState). record { world = u; lines = Dead actor ∷ [] }) same

crashed_rests : {S : Type 0} (m : Meaning S) (w : WorldState) (x : Who) (what : Result Stimulus Refusal) (h : Happened)
    → crashed_by w x ≡ true → step_of m w x what ≡ Ok h → h ≡ record { world = w; lines = Dead (actor_at x) ∷ [] }
crashed_rests m w (AReplica i) what h c e =
    let r = rests (replica.next m) (at_replica w i) (slice_get w.replicas i) what h c e in
    dead w _ (actors.Replica i) h r.is (replica_idles w Nothing nothing_is_silent i r.seat r.found)
crashed_rests m w (Another k i) what h c e =
    let r = rests (next k) (at_other k w i) (slice_get (seats k w.others) i) what h c e in
    dead w _ (actor_at (Another k i)) h r.is (other_idles w Nothing nothing_is_silent k i r.seat r.found)
crashed_rests m w (AnObserver i) what h c e =
    let r = rests (observer.next m) (at_observer w i) (slice_get w.observers i) what h c e in
    dead w _ (actors.Observer i) h r.is (observer_idles w Nothing nothing_is_silent i r.seat r.found)

pub crashed_takes_no_step : {S : Type 0} (m : Meaning S) (w : WorldState) (e : Event) (h : Happened) → has_crashed w (actor_of e) ≡ true
    → step m w e ≡ Ok h → h ≡ record { world = w; lines = Dead (actor_of e) ∷ [] }
unfolding step
crashed_takes_no_step m w e h c is =
    crashed_rests m w (who (actor_of e)) (stimulus_of w.config w.sent e) h c is
    ∙ ap (λ (a : Actor). record { world = w; lines = Dead a ∷ [] }) (actor_who (actor_of e))

-- ---- junk

-- bytes that spell no datagram change no core, and make it send nothing
replica_ignores : {S : Type 0} (m : Meaning S) (bytes : List ℕ) (b : Bad) → reading bytes ≡ Err b → (s : Replica)
    → replica.next m s (Packet bytes) ≡ (s, [])
unfolding replica.next
replica_ignores m bytes b e s = ap (replica.on_datagram m s) e

observer_ignores : {S : Type 0} (m : Meaning S) (bytes : List ℕ) (b : Bad) → reading bytes ≡ Err b → (s : Observer)
    → observer.next m s (Packet bytes) ≡ (s, [])
unfolding observer.next
observer_ignores m bytes b e s = ap (observer.on_datagram m s) e

client_ignores : (bytes : List ℕ) (b : Bad) → reading bytes ≡ Err b → (s : Client) → next Clients s (Packet bytes) ≡ (s, [])
unfolding requests.next reads.next
client_ignores bytes b e s = rw e refl

other_ignores : (k : Kind) (bytes : List ℕ) (b : Bad) → reading bytes ≡ Err b → (s : State k) → next k s (Packet bytes) ≡ (s, [])
unfolding sequencer.next controller.next
other_ignores Sequencers bytes b e s = ap (sequencer.on_datagram s) e
other_ignores Clients bytes b e s = client_ignores bytes b e s
other_ignores Controllers bytes b e s = ap (controller.on_datagram s) e

-- at a core that ignores such bytes
ignores : {S : Type 0} (next : S → Given → S × List Out) (f : Seated S × Did → Happened) (o : Option (Seated S)) (bytes : List ℕ)
    (r : Result Datagram Bad) (h : Happened) → ((b : Bad) → r ≡ Err b → (s : S) → next s (Packet bytes) ≡ (s, []))
    → then_at f (step_at next o (junk_of bytes r)) ≡ Ok h
    → (did : Did) × IsSilent did × Idles f o h did
ignores next f None bytes r h quiet e = absurd cc
ignores next f (Some p) bytes (Ok d) h quiet e = absurd cc
ignores {S} next f (Some p) bytes (Err b) h quiet e = by p.crashed refl
  where
    what : Stimulus
    what = Takes (Packet bytes)

    came : h ≡ f (moved_if next p.crashed p what)
    came = let same : f (moved_if next p.crashed p what) ≡ h = cc in sym same

    by : (c : Bool) → p.crashed ≡ c → (did : Did) × IsSilent did × Idles f (Some p) h did
    by true c = (Nothing, nothing_is_silent, record { seat = p; found = refl; is = came ∙ ap (λ (d : Bool). f (moved_if next d p what)) c })
    by false c =
        let same : h ≡ f (p, Outputs []) =
        came ∙ ap (λ (d : Bool). f (moved_if next d p what)) c
        ∙ ap (λ (x : S × List Out). f (seated x.0, Outputs x.1)) (quiet b refl p.state)
        ∙ ap (λ (d : Bool). f (record { state = p.state; crashed = d }, Outputs [])) (sym c) in
        (Outputs [], no_outputs_are_silent, record { seat = p; found = refl; is = same })

world_stays : (w : WorldState) (h g : Happened) → h ≡ g → g.world ≡ w → h.world ≡ w
world_stays w h g e same = ap (λ (x : Happened). x.world) e ∙ same

junk_stays : {S : Type 0} (m : Meaning S) (w : WorldState) (x : Who) (bytes : List ℕ) (h : Happened)
    → step_of m w x (junk_of bytes (reading bytes)) ≡ Ok h → h.world ≡ w
junk_stays m w (AReplica i) bytes h e =
    let r = ignores (replica.next m) (at_replica w i) (slice_get w.replicas i) bytes (reading bytes) h (replica_ignores m bytes) e in
    world_stays w h _ r.2.is (replica_idles w r.0 r.1 i r.2.seat r.2.found)
junk_stays m w (Another k i) bytes h e =
    let r = ignores (next k) (at_other k w i) (slice_get (seats k w.others) i) bytes (reading bytes) h (other_ignores k bytes) e in
    world_stays w h _ r.2.is (other_idles w r.0 r.1 k i r.2.seat r.2.found)
junk_stays m w (AnObserver i) bytes h e =
    let r = ignores (observer.next m) (at_observer w i) (slice_get w.observers i) bytes (reading bytes) h (observer_ignores m bytes) e in
    world_stays w h _ r.2.is (observer_idles w r.0 r.1 i r.2.seat r.2.found)

pub junk_changes_nothing : {S : Type 0} (m : Meaning S) (w : WorldState) (actor : Actor) (bytes : List ℕ) (h : Happened)
    → step m w (Junk actor bytes) ≡ Ok h → h.world ≡ w
unfolding step stimulus_of
junk_changes_nothing m w actor bytes h e = junk_stays m w (who actor) bytes h e
