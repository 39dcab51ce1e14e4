-- The event of an input, and what it brings to its actor.
use Rattle.std.proofs.Common.{◌≡◌, ℕ, zero, suc, ◌+◌, Bool, true, false, cond, List, [], ◌∷◌, map, Option, Some, None, Result, Ok, Err, refl, sym}
use Rattle.std.proofs.Common.{ap, subst, ◌∙◌, arith}
use Rattle.std.specs.Prelude.{⊤, if◌then◌else◌, nat_lt, slice_get}
use Rattle.std.specs.List.{position_from}
use Rattle.std.specs.Str.{bytes_eq}
use Rattle.std.proofs.lemmas.Slice.Eq.{bytes_eq-Decides}
use Rattle.nop_types.specs.Configuration.{Configuration}
use Rattle.nop_types.specs.Given.{Given}
use Rattle.nop_types.specs.Given as given
use Rattle.nop_types.specs.Lists.{Has}
use Rattle.nop_types.specs.declared.datagram.Datagram.{Datagram}
use Rattle.nop_types.specs.declared.input.Tick.{Tick}
use Rattle.nop_types.specs.declared.input.Tick.TheVariants as ticks
use Rattle.nop_types.specs.declared.output.Actor.{Actor}
use Rattle.nop_types.specs.declared.output.Actor.TheVariants as actors
use Rattle.lemmas.proofs.Members.{Has-none}
use Rattle.oum_codec.specs.declared.bad.Bad.{Bad}
use Rattle.oum_codec.specs.Reading.{reading}
use Rattle.schedule_text.specs.Ticks.{takes_tick}
use Rattle.schedule_text.specs.declared.event.Event.{Event}
use Rattle.schedule_text.specs.declared.event.Event.TheVariants as events
use Rattle.network.specs.Finding.{has_bytes, first_index}
use Rattle.network.specs.Network.{Sent}
use Rattle.trace_rows.specs.declared.row.Number.{Number}
use Rattle.trace_rows.specs.declared.row.Number.TheVariants.{Is, Past}
use Rattle.trace_rows.specs.declared.row.Taken.{Taken}
use Rattle.trace_rows.specs.declared.row.Taken.TheVariants.{Packet, Submit, Read, Install}
use Rattle.trace_rows.specs.declared.row.Taken.TheVariants as takens
use Rattle.world.specs.Seats.{Takes}
use Rattle.world.specs.WorldSteps.{actor_of, stimulus_of, tick_if, read_if}
use Rattle.audit_laws.specs.Audits.{event_of, packet_event, found_event, read_event, install_event}
use Rattle.audit_laws.specs.Braids.{IsThere}
use Rattle.audit_laws.specs.Names.{number_within}
use Rattle.audit_laws.specs.declared.fault.Fault.{Fault}
use Rattle.audit_laws.specs.declared.fault.Fault.TheVariants.{Misplaced}
use Rattle.audit_laws.proofs.Naming.{within_is}

abbrev pub value : Number → ℕ
value Past = 0
value (Is i) = i

-- what an actor takes, as its core is given it
abbrev pub given_of : Taken → Given
given_of (Packet bytes) = given.Packet bytes
given_of (takens.Tick tick) = given.Ticked tick
given_of (Submit op) = given.Submit op
given_of (Read observer key) = given.Read (value observer) key
given_of (Install sequencer) = given.Ticked (ticks.Install (value sequencer))

-- whatever was sent, an input but a packet is an event or not
abbrev pub MayTake : Configuration → Actor → Taken → Type 0
MayTake c a (Packet bytes) = ⊤
MayTake c a g = (e : Event) × (event_of c [] a g ≡ Ok e)

pub may_take : (c : Configuration) (sent : List Sent) (a : Actor) (g : Taken) (e : Event) → event_of c sent a g ≡ Ok e → MayTake c a g
may_take c sent a (Packet bytes) e h = tt
may_take c sent a _ e h = (e, h)

-- ---- the first datagram with some bytes

record IsAt (bytes : List ℕ) (sent : List Sent) (n i : ℕ) : Type 0 where
  place : ℕ
  is : i ≡ n + place
  datagram : Sent
  at : slice_get sent place ≡ Some datagram
  same : datagram.bytes ≡ bytes

at_place : (bytes : List ℕ) (sent : List Sent) (n i : ℕ) → position_from (has_bytes bytes) n sent ≡ Some i → IsAt bytes sent n i
at_place bytes [] n i e = absurd cc
at_place bytes (s ∷ sent) n i e = on (bytes_eq bytes s.bytes) refl e (λ h. at_place bytes sent (n + 1) i h)
  where
    on : (b : Bool) → bytes_eq bytes s.bytes ≡ b → cond b (Some n) (position_from (has_bytes bytes) (n + 1) sent) ≡ Some i
        → (position_from (has_bytes bytes) (n + 1) sent ≡ Some i → IsAt bytes sent (n + 1) i) → IsAt bytes (s ∷ sent) n i
    on true test h more =
        let same : n ≡ i = cc in
        record {
          place = zero;
          is = omega (arith, same);
          datagram = s;
          at = refl;
          same = sym ((bytes_eq-Decides bytes s.bytes).0 test);
        }
    on false test h more =
        let r = more h in
        record { place = suc r.place; is = omega (arith, r.is); datagram = r.datagram; at = r.at; same = r.same }

found_at : (bytes : List ℕ) (sent : List Sent) (n : ℕ) → Has (map (λ (s : Sent). s.bytes) sent) bytes
    → (i : ℕ) × (position_from (has_bytes bytes) n sent ≡ Some i)
found_at bytes [] n h = absurd (Has-none bytes h)
found_at bytes (s ∷ sent) n h = on (bytes_eq bytes s.bytes) refl h (found_at bytes sent (n + 1))
  where
    on : (b : Bool) → bytes_eq bytes s.bytes ≡ b → Has (s.bytes ∷ map (λ (t : Sent). t.bytes) sent) bytes
        → (Has (map (λ (t : Sent). t.bytes) sent) bytes → (i : ℕ) × (position_from (has_bytes bytes) (n + 1) sent ≡ Some i))
        → (i : ℕ) × (cond b (Some n) (position_from (has_bytes bytes) (n + 1) sent) ≡ Some i)
    on true test g more = (n, refl)
    on false test (zero, e) more =
        let same : s.bytes ≡ bytes = cc in
        let yes = (bytes_eq-Decides bytes s.bytes).1 (sym same) in
        absurd cc
    on false test (suc k, e) more = more (k, e)

has_bytes_of : (ss : List Sent) (k : ℕ) (t : Sent) (bytes : List ℕ) → slice_get ss k ≡ Some t → t.bytes ≡ bytes
    → slice_get (map (λ (t : Sent). t.bytes) ss) k ≡ Some bytes
has_bytes_of [] k t bytes e same = absurd cc
has_bytes_of (q ∷ ss) zero t bytes e same = let f : q ≡ t = cc in ap (λ (u : Sent). Some u.bytes) f ∙ ap (λ (b : List ℕ). Some b) same
has_bytes_of (q ∷ ss) (suc k) t bytes e same = has_bytes_of ss k t bytes e same

-- ---- what an event brings

-- the event is this actor's, and brings it this
pub record IsEventFor (c : Configuration) (sent : List Sent) (a : Actor) (g : Taken) (e : Event) : Type 0 where
  pub actor : actor_of e ≡ a
  pub brings : stimulus_of c sent e ≡ Ok (Takes (given_of g))

module _ (c : Configuration) (sent : List Sent) where
  delivered : (a : Actor) (bytes : List ℕ) (i : ℕ) → first_index bytes sent ≡ Some i
      → stimulus_of c sent (events.Deliver i a) ≡ Ok (Takes (given.Packet bytes))
  unfolding stimulus_of
  delivered a bytes i e =
      let r = at_place bytes sent 0 i e in
      let place : i ≡ r.place = (let is = r.is in omega (arith, is)) in
      let here : slice_get sent i ≡ Some r.datagram = ap (slice_get sent) place ∙ r.at in
      rw here (ap (λ (b : List ℕ). Ok (Takes (given.Packet b))) r.same)

  junk_brings : (a : Actor) (bytes : List ℕ) (x : Bad) → reading bytes ≡ Err x
      → stimulus_of c sent (events.Junk a bytes) ≡ Ok (Takes (given.Packet bytes))
  unfolding stimulus_of
  junk_brings a bytes x e = rw e refl

  tick_brings : (a : Actor) (t : Tick) → takes_tick a t ≡ true → stimulus_of c sent (events.Tick a t) ≡ Ok (Takes (given.Ticked t))
  unfolding stimulus_of
  tick_brings a t takes = ap (λ (b : Bool). tick_if b t) takes

  install_brings : (k j : ℕ) → nat_lt j c.sequencers ≡ true
      → stimulus_of c sent (events.Install k j) ≡ Ok (Takes (given.Ticked (ticks.Install j)))
  unfolding stimulus_of
  install_brings k j within = ap (λ (b : Bool). tick_if b (ticks.Install j)) within

  read_brings : (k o : ℕ) (key : List ℕ) → nat_lt o c.observers ≡ true
      → stimulus_of c sent (events.Read k o key) ≡ Ok (Takes (given.Read o key))
  unfolding stimulus_of
  read_brings k o key within = ap (λ (b : Bool). read_if b o key) within

  submit_brings : (k : ℕ) (op : List ℕ) → stimulus_of c sent (events.Submit k op) ≡ Ok (Takes (given.Submit op))
  unfolding stimulus_of
  submit_brings k op = refl

  packet_is : (a : Actor) (bytes : List ℕ) (r : Result Datagram Bad) (e : Event) → reading bytes ≡ r → packet_event sent a bytes r ≡ Ok e
      → IsEventFor c sent a (Packet bytes) e
  packet_is a bytes (Err x) e is h =
      let same : events.Junk a bytes ≡ e = cc in
      subst (IsEventFor c sent a (Packet bytes)) same (record { actor = refl; brings = junk_brings a bytes x is })
  packet_is a bytes (Ok d) e is h = on (first_index bytes sent) refl h
    where
      on : (o : Option ℕ) → first_index bytes sent ≡ o → found_event a o ≡ Ok e → IsEventFor c sent a (Packet bytes) e
      on None eq g = absurd cc
      on (Some i) eq g =
          let same : events.Deliver i a ≡ e = cc in
          subst (IsEventFor c sent a (Packet bytes)) same (record { actor = refl; brings = delivered a bytes i eq })

  tick_is : (a : Actor) (t : Tick) (e : Event) (b : Bool) → takes_tick a t ≡ b
      → (let r : Result Event Fault = if b then Ok (events.Tick a t) else Err Misplaced in r) ≡ Ok e
      → IsEventFor c sent a (takens.Tick t) e
  tick_is a t e false takes h = absurd cc
  tick_is a t e true takes h =
      let same : events.Tick a t ≡ e = cc in
      subst (IsEventFor c sent a (takens.Tick t)) same (record { actor = refl; brings = tick_brings a t takes })

  submit_is : (a : Actor) (op : List ℕ) (e : Event) → event_of c sent a (Submit op) ≡ Ok e → IsEventFor c sent a (Submit op) e
  submit_is (actors.Client k) op e h =
      let same : events.Submit k op ≡ e = cc in
      subst (IsEventFor c sent (actors.Client k) (Submit op)) same (record { actor = refl; brings = submit_brings k op })
  submit_is _ op e h = absurd cc

  read_is : (a : Actor) (n : Number) (key : List ℕ) (e : Event) (o : Option ℕ) → number_within c.observers n ≡ o → read_event a o key ≡ Ok e
      → IsEventFor c sent a (Read n key) e
  read_is (actors.Client k) n key e (Some i) within h =
      let is = within_is c.observers n i within in
      let same : events.Read k i key ≡ e = cc in
      let number : i ≡ value n = ap value (sym is.0) in
      subst (IsEventFor c sent (actors.Client k) (Read n key)) same (record {
        actor = refl;
        brings = read_brings k i key is.1 ∙ ap (λ (j : ℕ). Ok (Takes (given.Read j key))) number;
      })
  read_is (actors.Client k) n key e None within h = absurd cc
  read_is _ n key e o within h = absurd cc

  install_is : (a : Actor) (n : Number) (e : Event) (o : Option ℕ) → number_within c.sequencers n ≡ o → install_event a o ≡ Ok e
      → IsEventFor c sent a (Install n) e
  install_is (actors.Controller k) n e (Some i) within h =
      let is = within_is c.sequencers n i within in
      let same : events.Install k i ≡ e = cc in
      let number : i ≡ value n = ap value (sym is.0) in
      subst (IsEventFor c sent (actors.Controller k) (Install n)) same (record {
        actor = refl;
        brings = install_brings k i is.1 ∙ ap (λ (j : ℕ). Ok (Takes (given.Ticked (ticks.Install j)))) number;
      })
  install_is (actors.Controller k) n e None within h = absurd cc
  install_is _ n e o within h = absurd cc

  pub event_is : (a : Actor) (g : Taken) (e : Event) → event_of c sent a g ≡ Ok e → IsEventFor c sent a g e
  event_is a (Packet bytes) e h = packet_is a bytes (reading bytes) e refl h
  event_is a (takens.Tick t) e h = tick_is a t e (takes_tick a t) refl h
  event_is a (Submit op) e h = submit_is a op e h
  event_is a (Read n key) e h = read_is a n key e (number_within c.observers n) refl h
  event_is a (Install n) e h = install_is a n e (number_within c.sequencers n) refl h

  -- ---- and there is one, where a datagram was sent

  packet_has : (a : Actor) (bytes : List ℕ) (r : Result Datagram Bad) → ((d : Datagram) → r ≡ Ok d → Has (map (λ (s : Sent). s.bytes) sent) bytes)
      → (e : Event) × (packet_event sent a bytes r ≡ Ok e)
  packet_has a bytes (Err x) there = (events.Junk a bytes, refl)
  packet_has a bytes (Ok d) there =
      let f = found_at bytes sent 0 (there d refl) in
      (events.Deliver f.0 a, ap (found_event a) f.1)

  pub event_has : (a : Actor) (g : Taken) → MayTake c a g → IsThere (map (λ (s : Sent). s.bytes) sent) g
      → (e : Event) × (event_of c sent a g ≡ Ok e)
  event_has a (Packet bytes) may there = packet_has a bytes (reading bytes) there
  event_has a _ may there = may

  -- ---- what is delivered was sent

  found_was_sent : (a : Actor) (bytes : List ℕ) (e : Event) (o : Option ℕ) → first_index bytes sent ≡ o → found_event a o ≡ Ok e
      → Has (map (λ (t : Sent). t.bytes) sent) bytes
  found_was_sent a bytes e None eq h = absurd cc
  found_was_sent a bytes e (Some i) eq h =
      let r = at_place bytes sent 0 i eq in
      (r.place, has_bytes_of sent r.place r.datagram bytes r.at r.same)

  pub was_there : (a : Actor) (g : Taken) (e : Event) → event_of c sent a g ≡ Ok e → IsThere (map (λ (s : Sent). s.bytes) sent) g
  was_there a (Packet bytes) e h = λ d reads.
      let f : found_event a (first_index bytes sent) ≡ Ok e = rw reads at h in
      found_was_sent a bytes e (first_index bytes sent) refl f
  was_there a _ e h = tt
