-- The lines of a run are those of actors that are there, and each datagram of a line was sent.
use Rattle.std.proofs.Common.{◌≡◌, ◌+◌, ◌≤◌, ◌<◌, ℕ, zero, suc, Bool, true, false, Option, Some, None, refl, sym, ap, subst, ◌∙◌}
use Rattle.std.proofs.Common.{arith, length}
use Rattle.std.proofs.Common.{List, [], ◌∷◌, ◌++◌, inl, inr, append_assoc, length-append}
use Rattle.std.specs.Prelude.{⊤, Result, Ok, Err, nat_lt, slice_get, slice_set}
use Rattle.std.proofs.lemmas.Bool.{ltb-true}
use Rattle.std.proofs.lemmas.List.{length-set}
use Rattle.std.proofs.lemmas.Option.{slice_get_within}
use Rattle.lemmas.proofs.Members.{Has-none, Has-cases, Has-append_cases}
use Rattle.lemmas.proofs.Places.{slice_get-append_left, slice_get-append_at, slice_get-push_cases}
use Rattle.line_fields.specs.Fields.{IsActorOf}
use Rattle.nop_types.specs.Configuration.{Configuration}
use Rattle.nop_types.specs.Given.{Given, Packet, Ticked, Submit, Read}
use Rattle.nop_types.specs.Lines as lines
use Rattle.nop_types.specs.Lines.{Line}
use Rattle.nop_types.specs.Lists.{Has}
use Rattle.nop_types.specs.Meaning.{Meaning}
use Rattle.nop_types.specs.declared.datagram.Datagram.{Datagram}
use Rattle.nop_types.specs.declared.input.Tick.{Tick}
use Rattle.nop_types.specs.declared.input.Tick.TheVariants as ticks
use Rattle.nop_types.specs.declared.output.Actor.{Actor}
use Rattle.nop_types.specs.declared.output.Actor.TheVariants as actors
use Rattle.nop_types.specs.declared.output.Out.{Out}
use Rattle.nop_types.specs.declared.output.Out.TheVariants as outs
use Rattle.oum_codec.specs.declared.bad.Bad.{Bad}
use Rattle.oum_codec.specs.Reading.{reading}
use Rattle.client_quorum.specs.Core.{Client}
use Rattle.observer.specs.ObserverSteps as observer
use Rattle.observer.specs.ObserverSteps.{Observer}
use Rattle.replica_core.specs.ReplicaSteps as replica
use Rattle.replica_core.specs.ReplicaSteps.{Replica}
use Rattle.schedule_text.specs.Ticks.{takes_tick}
use Rattle.schedule_text.specs.declared.event.Event.{Event}
use Rattle.schedule_text.specs.declared.event.Event.TheVariants as events
use Rattle.network.specs.Network.{Sent, sends_of, lines_from, sends_by, lines_by, Did, Nothing, Outputs}
use Rattle.world.specs.Others.{Kind, Sequencers, Clients, Controllers, State, next, seats, count}
use Rattle.world.specs.Others.{Who, AReplica, Another, AnObserver, who, actor_at}
use Rattle.world.specs.Seats.{Seated, seated, Stimulus, Takes, Crashes, moved_if, seat_step}
use Rattle.world.specs.WorldSteps.{WorldState, Happened, Refusal, actor_of, stimulus_of, tick_if, read_if, datagram_at, junk_of, at_replica}
use Rattle.world.specs.WorldSteps.{at_other, at_observer, step_of, step, go_on, run_from, run, opening, numbered_seats, opening_client, opening_others}
use Rattle.world.proofs.Others.{others_become}
use Rattle.world.proofs.Refusals.{opening_has_actors}
use Rattle.whole_world.proofs.Seats.{seats_become}
use Rattle.safety.proofs.Taking.{took}
use Rattle.judged_runs.proofs.Ops.{AreRead, OpIsBytes}
use Rattle.judged_runs.proofs.Outs.{IsRequest, IsAsked, IsKey, OutsAre, IsOp, GivenIs, IsClient, replica_tells, sequencer_tells}
use Rattle.judged_runs.proofs.Outs.{controller_tells, observer_tells, client_tells}
use Rattle.schedule_text.specs.Fits.{EventFits}

-- ---- lines

-- a line of a run, where these datagrams were sent
abbrev pub LineIs : Configuration → List Sent → Line → Type 0
LineIs c sent (lines.Dead actor) = IsActorOf c actor
LineIs c sent (lines.Submit r) = IsRequest c r
LineIs c sent (lines.Accept client id result) = ⊤
LineIs c sent (lines.Busy client) = client < c.clients
LineIs c sent (lines.Read client id observer key) = IsAsked c client id observer key
LineIs c sent (lines.Answer client id observer position result) = ⊤
LineIs c sent (lines.Send index from dest bytes) =
    IsActorOf c from × (slice_get sent index ≡ Some (record { from = from; dest = dest; bytes = bytes }))

abbrev pub LinesAre : Configuration → List Sent → List Line → Type 0
LinesAre c sent ls = (l : Line) → Has ls l → LineIs c sent l

-- more datagrams are sent
still_line : (c : Configuration) (sent more : List Sent) (l : Line) → LineIs c sent l → LineIs c (sent ++ more) l
still_line c sent more (lines.Send index from dest bytes) h = (h.0, slice_get-append_left sent more index _ h.1)
still_line c sent more _ h = h

one_more_line : (c : Configuration) (sent : List Sent) (x : Line) (ls : List Line) → LineIs c sent x → LinesAre c sent ls
    → LinesAre c sent (x ∷ ls)
one_more_line c sent x ls one all l h = elim (Has-cases l x ls h) [
  | inl e ↦ subst (LineIs c sent) (sym e) one
  | inr i ↦ all l i
]

-- what an actor's outputs tell, where its datagrams stand behind those of before
outs_tell : (c : Configuration) (from : Actor) → IsActorOf c from → (os : List Out) → OutsAre c os → (n : ℕ) (sent : List Sent)
    → n ≡ length sent → LinesAre c (sent ++ sends_of from os) (lines_from from n os)
outs_tell c from there [] all n sent at = λ l h. absurd (Has-none l h)
outs_tell c from there (outs.Send dest bytes ∷ os) all n sent at =
    let x : Sent = record { from = from; dest = dest; bytes = bytes } in
    let whole : (sent ++ x ∷ []) ++ sends_of from os ≡ sent ++ x ∷ sends_of from os = append_assoc sent (x ∷ []) (sends_of from os) in
    let rest = outs_tell c from there os all.1 (n + 1) (sent ++ x ∷ []) (omega (arith, length-append sent (x ∷ []))) in
    one_more_line c (sent ++ x ∷ sends_of from os) (lines.Send n from dest bytes) (lines_from from (n + 1) os)
    (there, ap (slice_get (sent ++ x ∷ sends_of from os)) at ∙ slice_get-append_at sent x (sends_of from os))
    (subst (λ (s : List Sent). LinesAre c s (lines_from from (n + 1) os)) whole rest)
outs_tell c from there (outs.Submitted r ∷ os) all n sent at =
    one_more_line c (sent ++ sends_of from os) (lines.Submit r) (lines_from from n os) all.0 (outs_tell c from there os all.1 n sent at)
outs_tell c from there (outs.Accepted client id result ∷ os) all n sent at =
    one_more_line c (sent ++ sends_of from os) (lines.Accept client id result) (lines_from from n os) tt
    (outs_tell c from there os all.1 n sent at)
outs_tell c from there (outs.Busy client ∷ os) all n sent at =
    one_more_line c (sent ++ sends_of from os) (lines.Busy client) (lines_from from n os) all.0 (outs_tell c from there os all.1 n sent at)
outs_tell c from there (outs.Reading client id observer key ∷ os) all n sent at =
    one_more_line c (sent ++ sends_of from os) (lines.Read client id observer key) (lines_from from n os) all.0
    (outs_tell c from there os all.1 n sent at)
outs_tell c from there (outs.Answered client id observer position result ∷ os) all n sent at =
    one_more_line c (sent ++ sends_of from os) (lines.Answer client id observer position result) (lines_from from n os) tt
    (outs_tell c from there os all.1 n sent at)
outs_tell c from there (outs.Trimmed first entries ∷ os) all n sent at = outs_tell c from there os all.1 n sent at

-- each datagram has a line
sends_counted : (from : Actor) (os : List Out) (n : ℕ) → length (sends_of from os) ≤ length (lines_from from n os)
sends_counted from [] n = omega arith
sends_counted from (outs.Send dest bytes ∷ os) n = let h = sends_counted from os (n + 1) in omega (arith, h)
sends_counted from (_ ∷ os) n = let h = sends_counted from os n in omega (arith, h)

-- what an actor did
abbrev DidTell : Configuration → Did → Type 0
DidTell c Nothing = ⊤
DidTell c (Outputs os) = OutsAre c os

did_tell : (c : Configuration) (from : Actor) → IsActorOf c from → (did : Did) → DidTell c did → (sent : List Sent)
    → LinesAre c (sent ++ sends_by from did) (lines_by from (length sent) did)
did_tell c from there Nothing h sent = one_more_line c (sent ++ []) (lines.Dead from) [] there (λ l h. absurd (Has-none l h))
did_tell c from there (Outputs os) h sent = outs_tell c from there os h (length sent) sent refl

did_count : (from : Actor) (did : Did) (n : ℕ) → length (sends_by from did) ≤ length (lines_by from n did)
did_count from Nothing n = omega arith
did_count from (Outputs os) n = sends_counted from os n

-- ---- worlds

-- a client has its number, and no op waits
abbrev OtherIs : (k : Kind) → ℕ → State k → Type 0
OtherIs Clients i s = IsClient i s
OtherIs _ i s = ⊤

pub record LinesShow (c : Configuration) (w : WorldState) (ls : List Line) : Type 0 where
  pub config : w.config ≡ c
  pub replicas : length w.replicas ≡ c.replicas
  pub observers : length w.observers ≡ c.observers
  pub others : (k : Kind) → length (seats k w.others) ≡ count k c
  pub own : (k : Kind) (i : ℕ) (q : Seated (State k)) → slice_get (seats k w.others) i ≡ Some q → OtherIs k i q.state
  pub count : length w.sent ≤ length ls
  pub lines : LinesAre c w.sent ls

-- what an event made of a world
record Tells (c : Configuration) (w : WorldState) (h : Happened) : Type 0 where
  from : Actor
  there : IsActorOf c from
  did : Did
  tells : DidTell c did
  sent : h.world.sent ≡ w.sent ++ sends_by from did
  lines : h.lines ≡ lines_by from (length w.sent) did
  config : h.world.config ≡ w.config
  replicas : length h.world.replicas ≡ length w.replicas
  observers : length h.world.observers ≡ length w.observers
  others : (k : Kind) → length (seats k h.world.others) ≡ length (seats k w.others)
  own : (k : Kind) (i : ℕ) (q : Seated (State k)) → slice_get (seats k h.world.others) i ≡ Some q → OtherIs k i q.state

shown_on : (c : Configuration) (w : WorldState) (ls : List Line) (h : Happened) → LinesShow c w ls → Tells c w h → LinesShow c h.world (ls ++ h.lines)
shown_on c w ls h lines_show t = record {
  config = t.config ∙ lines_show.config;
  replicas = t.replicas ∙ lines_show.replicas;
  observers = t.observers ∙ lines_show.observers;
  others = λ k. t.others k ∙ lines_show.others k;
  own = t.own;
  count = omega (
    arith,
    lines_show.count,
    did_count t.from t.did (length w.sent),
    ap length t.sent,
    length-append w.sent (sends_by t.from t.did),
    ap length t.lines,
    length-append ls h.lines,
  );
  lines = λ l i. subst (λ (s : List Sent). LineIs c s l) (sym t.sent) (elim (Has-append_cases ls h.lines l i) [
    | inl before ↦ still_line c w.sent (sends_by t.from t.did) l (lines_show.lines l before)
    | inr now ↦ did_tell c t.from t.there t.did t.tells w.sent l (subst (λ (xs : List Line). Has xs l) t.lines now)
  ]);
}

-- ---- seats

abbrev StimulusIs : Configuration → Stimulus → Type 0
StimulusIs c (Takes i) = GivenIs c i
StimulusIs c Crashes = ⊤

seat_tells : {S : Type 0} (c : Configuration) (next : S → Given → S × List Out) (p : Seated S) (b : Bool) (what : Stimulus)
    → ((i : Given) → what ≡ Takes i → OutsAre c (next p.state i).1) → DidTell c (moved_if next b p what).1
seat_tells c next p true what go = tt
seat_tells c next p false (Takes i) go = go i refl
seat_tells c next p false Crashes go = tt

other_tells : (c : Configuration) (k : Kind) (i : ℕ) → i < count k c → (s : State k) → OtherIs k i s → (g : Given) → GivenIs c g
    → OutsAre c (next k s g).1 × OtherIs k i (next k s g).0
other_tells c Sequencers i within s is g fits = (sequencer_tells c s g, tt)
other_tells c Clients i within s is g fits = client_tells c i within s is g fits
other_tells c Controllers i within s is g fits = (controller_tells c s g, tt)

other_seat : (c : Configuration) (k : Kind) (i : ℕ) → i < count k c → (p : Seated (State k)) → OtherIs k i p.state → (b : Bool)
    (what : Stimulus) → StimulusIs c what
    → DidTell c (moved_if (next k) b p what).1 × OtherIs k i (moved_if (next k) b p what).0.state
other_seat c k i within p is true what fits = (tt, is)
other_seat c k i within p is false (Takes g) fits = other_tells c k i within p.state is g fits
other_seat c k i within p is false Crashes fits = (tt, is)

is_there : (c : Configuration) (k : Kind) (i : ℕ) → i < count k c → IsActorOf c (actor_at (Another k i))
is_there c Sequencers i within = within
is_there c _ i within = within

module _ {S : Type 0} (m : Meaning S) (c : Configuration) (w : WorldState) (ls : List Line) (lines_show : LinesShow c w ls) where
  replica_step : (i : ℕ) (old : Seated Replica) (what : Stimulus) → slice_get w.replicas i ≡ Some old
      → Tells c w (at_replica w i (seat_step (replica.next m) old what))
  replica_step i old what there = record {
    from = actors.Replica i;
    there = omega (arith, slice_get_within w.replicas i old there, lines_show.replicas);
    did = (seat_step (replica.next m) old what).1;
    tells = seat_tells c (replica.next m) old old.crashed what (λ given is. replica_tells m c old.state given);
    sent = refl;
    lines = refl;
    config = refl;
    replicas = length-set w.replicas i (seat_step (replica.next m) old what).0;
    observers = refl;
    others = λ k. refl;
    own = lines_show.own;
  }

  observer_step : (i : ℕ) (old : Seated Observer) (what : Stimulus) → slice_get w.observers i ≡ Some old
      → Tells c w (at_observer w i (seat_step (observer.next m) old what))
  observer_step i old what there = record {
    from = actors.Observer i;
    there = omega (arith, slice_get_within w.observers i old there, lines_show.observers);
    did = (seat_step (observer.next m) old what).1;
    tells = seat_tells c (observer.next m) old old.crashed what (λ given is. observer_tells m c old.state given);
    sent = refl;
    lines = refl;
    config = refl;
    replicas = refl;
    observers = length-set w.observers i (seat_step (observer.next m) old what).0;
    others = λ k. refl;
    own = lines_show.own;
  }

  other_step : (k : Kind) (i : ℕ) (old : Seated (State k)) (what : Stimulus) → slice_get (seats k w.others) i ≡ Some old
      → StimulusIs c what → Tells c w (at_other k w i (seat_step (next k) old what))
  other_step k i old what there fits =
      let within : i < count k c = omega (arith, slice_get_within (seats k w.others) i old there, lines_show.others k) in
      let t = other_seat c k i within old (lines_show.own k i old there) old.crashed what fits in
      let new : Seated (State k) = (seat_step (next k) old what).0 in
      let ps : List (Seated (State k)) = slice_set (seats k w.others) i new in
      record {
        from = actor_at (Another k i);
        there = is_there c k i within;
        did = (seat_step (next k) old what).1;
        tells = t.0;
        sent = refl;
        lines = refl;
        config = refl;
        replicas = refl;
        observers = refl;
        others = others_become (λ j qs. length qs ≡ length (seats j w.others)) w.others k ps
            (length-set (seats k w.others) i new) (λ j. refl);
        own = others_become (λ j qs. (n : ℕ) (q : Seated (State j)) → slice_get qs n ≡ Some q → OtherIs j n q.state) w.others k ps
            (seats_become (OtherIs k) (OtherIs k) (seats k w.others) i new t.1 (λ n s other h. h) (lines_show.own k)) lines_show.own;
      }

  actor_step : (x : Who) (r : Result Stimulus Refusal) (h : Happened) → ((what : Stimulus) → r ≡ Ok what → StimulusIs c what)
      → step_of m w x r ≡ Ok h → Tells c w h
  actor_step (AReplica i) r h fits e =
      let t = took (at_replica w i) (replica.next m) (slice_get w.replicas i) r h e in
      subst (Tells c w) t.gives (replica_step i t.seat t.what t.there)
  actor_step (Another k i) r h fits e =
      let t = took (at_other k w i) (next k) (slice_get (seats k w.others) i) r h e in
      subst (Tells c w) t.gives (other_step k i t.seat t.what t.there (fits t.what t.brought))
  actor_step (AnObserver i) r h fits e =
      let t = took (at_observer w i) (observer.next m) (slice_get w.observers i) r h e in
      subst (Tells c w) t.gives (observer_step i t.seat t.what t.there)

-- ---- events

tick_is : (c : Configuration) (b : Bool) (tick : Tick) (what : Stimulus) → tick_if b tick ≡ Ok what → StimulusIs c what
tick_is c true tick what e = let same : Takes (Ticked tick) ≡ what = cc in subst (StimulusIs c) same tt
tick_is c false tick what e = absurd cc

datagram_is : (c : Configuration) (index count : ℕ) (o : Option Sent) (what : Stimulus) → datagram_at index count o ≡ Ok what → StimulusIs c what
datagram_is c index count None what e = absurd cc
datagram_is c index count (Some s) what e = let same : Takes (Packet s.bytes) ≡ what = cc in subst (StimulusIs c) same tt

junk_is : (c : Configuration) (bytes : List ℕ) (r : Result Datagram Bad) (what : Stimulus) → junk_of bytes r ≡ Ok what → StimulusIs c what
junk_is c bytes (Ok d) what e = absurd cc
junk_is c bytes (Err bad) what e = let same : Takes (Packet bytes) ≡ what = cc in subst (StimulusIs c) same tt

read_is : (c : Configuration) (b : Bool) (observer : ℕ) (key : List ℕ) (what : Stimulus) → IsKey key → nat_lt observer c.observers ≡ b
    → read_if b observer key ≡ Ok what → StimulusIs c what
read_is c true observer key what is there e =
    let same : Takes (Read observer key) ≡ what = cc in
    subst (StimulusIs c) same (ltb-true observer c.observers there, is)
read_is c false observer key what is there e = absurd cc

event_is : (c : Configuration) (sent : List Sent) (x : Event) → EventFits x × OpIsBytes x → (what : Stimulus)
    → stimulus_of c sent x ≡ Ok what → StimulusIs c what
unfolding stimulus_of
event_is c sent (events.Submit number op) read what e =
    let same : Takes (Submit op) ≡ what = cc in
    let is : IsOp op = record { bytes = read.1; short = read.0 } in
    subst (StimulusIs c) same is
event_is c sent (events.Deliver index actor) read what e = datagram_is c index (length sent) (slice_get sent index) what e
event_is c sent (events.Tick actor tick) read what e = tick_is c (takes_tick actor tick) tick what e
event_is c sent (events.Install k j) read what e = tick_is c (nat_lt j c.sequencers) (ticks.Install j) what e
event_is c sent (events.Read client observer key) read what e =
    read_is c (nat_lt observer c.observers) observer key what (record { bytes = read.1; some = read.0.0; most = read.0.1 }) refl e
event_is c sent (events.Crash actor) read what e = let same : Crashes ≡ what = cc in subst (StimulusIs c) same tt
event_is c sent (events.Junk actor bytes) read what e = junk_is c bytes (reading bytes) what e

module _ {S : Type 0} (m : Meaning S) (c : Configuration) where
  event_shown : (w : WorldState) (ls : List Line) → LinesShow c w ls → (x : Event) → EventFits x × OpIsBytes x → (h : Happened)
      → step m w x ≡ Ok h → LinesShow c h.world (ls ++ h.lines)
  unfolding step
  event_shown w ls lines_show x read h e =
      shown_on c w ls h lines_show
      (actor_step m c w ls lines_show (who (actor_of x)) (stimulus_of w.config w.sent x) h
      (λ what is. subst (λ (g : Configuration). StimulusIs g what) lines_show.config (event_is w.config w.sent x read what is)) e)

  shown_then : (x : Event) (es : List Event) (w : WorldState) (ls : List Line) (h : Happened) → LinesShow c w ls → EventFits x × OpIsBytes x
      → ((v : WorldState) (more : List Line) → LinesShow c v more → run_from m more v es ≡ Ok h → LinesShow c h.world h.lines)
      → (r : Result Happened Refusal) → step m w x ≡ r → go_on m ls r (λ more v. run_from m more v es) ≡ Ok h → LinesShow c h.world h.lines
  shown_then x es w ls h lines_show read rest (Err refusal) is e = absurd cc
  shown_then x es w ls h lines_show read rest (Ok g) is e = rest g.world (ls ++ g.lines) (event_shown w ls lines_show x read g is) e

  shown_from : (es : List Event) (w : WorldState) (ls : List Line) (h : Happened) → LinesShow c w ls → AreRead es → run_from m ls w es ≡ Ok h
      → LinesShow c h.world h.lines
  shown_from [] w ls h lines_show read e =
      let same : record { world = w; lines = ls } ≡ h = cc in
      subst (λ (t : Happened). LinesShow c t.world t.lines) same lines_show
  shown_from (x ∷ es) w ls h lines_show read e =
      shown_then x es w ls h lines_show read.0 (λ v more t g. shown_from es v more h t read.1 g) (step m w x) refl e

-- ---- the opening

counted_length : {S : Type 0} (make : ℕ → S) (n : ℕ) → length (numbered_seats make n) ≡ n
counted_length make zero = refl
counted_length make (suc n) =
    let h = counted_length make n in omega (arith, h, length-append (numbered_seats make n) (seated (make n) ∷ []))

opening_own : (c : Configuration) (n k : ℕ) (q : Seated Client) → slice_get (numbered_seats (opening_client c) n) k ≡ Some q
    → IsClient k q.state
opening_own c zero k q h = absurd cc
opening_own c (suc n) k q h =
    elim (slice_get-push_cases (numbered_seats (opening_client c) n) (seated (opening_client c n)) k q h) [
      | inl before ↦ opening_own c n k q before.1
      | inr last ↦
          let here : k ≡ n = last.0 ∙ counted_length (opening_client c) n in
          subst (λ (s : Seated Client). IsClient k s.state) last.1
          (record { requests = record { number = sym here; waits = refl }; reads = sym here })
    ]

opening_shown : (c : Configuration) → LinesShow c (opening c) []
opening_shown c = record {
  config = refl;
  replicas = (opening_has_actors c).replicas;
  observers = (opening_has_actors c).observers;
  others = (opening_has_actors c).others;
  own = λ k. own k;
  count = omega arith;
  lines = λ l h. absurd (Has-none l h);
}
  where
    own : (k : Kind) (i : ℕ) (q : Seated (State k)) → slice_get (seats k (opening_others c)) i ≡ Some q → OtherIs k i q.state
    own Clients i q h = opening_own c c.clients i q h
    own _ i q h = tt

pub runs_tell : {S : Type 0} (m : Meaning S) (c : Configuration) (es : List Event) (h : Happened) → AreRead es → run m c es ≡ Ok h
    → LinesShow c h.world h.lines
runs_tell m c es h read e = shown_from m c es (opening c) [] h (opening_shown c) read e
