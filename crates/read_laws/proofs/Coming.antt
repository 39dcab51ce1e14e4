-- What an event delivers was sent, or is no datagram, and a key that is asked for is in its range; what came may have come later too.
use Rattle.std.proofs.Common.{◌≡◌, ℕ, Bool, true, false, Option, Some, None, refl, sym, ap, subst, ◌∙◌, inl, inr, List, [], ◌∷◌, ◌++◌, length}
use Rattle.std.specs.Prelude.{⊤, nat_lt, Result, Ok, Err, slice_get}
use Rattle.std.proofs.lemmas.List.{map-append}
use Rattle.std.proofs.lemmas.Option.{slice_get-map}
use Rattle.std.specs.Option.{option_map}
use Rattle.nop_types.specs.Configuration.{Configuration}
use Rattle.nop_types.specs.Given.{Given, Packet, Ticked, Submit, Read}
use Rattle.nop_types.specs.Lists.{Has}
use Rattle.nop_types.specs.Meaning.{Meaning}
use Rattle.nop_types.specs.declared.datagram.Datagram.{Datagram}
use Rattle.nop_types.specs.declared.input.Tick.{Tick}
use Rattle.nop_types.specs.declared.input.Tick.TheVariants as ticks
use Rattle.nop_types.specs.declared.output.Actor.{Actor}
use Rattle.nop_types.specs.declared.output.Out.{Out}
use Rattle.nop_types.specs.declared.output.Out.TheVariants as outs
use Rattle.lemmas.proofs.Members.{Has-append_left, Has-append_cases, Has-none, Has-one}
use Rattle.oum_codec.specs.declared.bad.Bad.{Bad}
use Rattle.oum_codec.specs.Reading.{reading}
use Rattle.client_reads.specs.Runs.{KeyFits}
use Rattle.observer.specs.ObserverSteps.{Observer, next, after, opening}
use Rattle.schedule_text.specs.declared.event.Event.{Event}
use Rattle.schedule_text.specs.declared.event.Event.TheVariants as events
use Rattle.schedule_text.specs.Fits.{EventFits}
use Rattle.schedule_text.specs.Ticks.{takes_tick}
use Rattle.network.specs.Network.{Sent, sends_of}
use Rattle.network_laws.specs.Network.{bytes_in, MayCome}
use Rattle.world.specs.Seats.{Stimulus, Takes, Crashes}
use Rattle.world.specs.WorldSteps.{tick_if, read_if, datagram_at, junk_of, stimulus_of}
use Rattle.read_laws.specs.Received.{Received, bytes_of}

-- ---- bytes of the network

pub bytes_there : (sent : List Sent) (s : Sent) → Has sent s → Has (bytes_of sent) s.bytes
bytes_there sent s h =
    (h.0, slice_get-map (λ (x : Sent). x.bytes) sent h.0 ∙ ap (option_map (λ (x : Sent). x.bytes)) h.1)

pub bytes_of_sends : (from : Actor) (os : List Out) → bytes_of (sends_of from os) ≡ bytes_in os
bytes_of_sends from [] = refl
bytes_of_sends from (outs.Send dest bytes ∷ os) = ap (λ (t : List (List ℕ)). bytes ∷ t) (bytes_of_sends from os)
bytes_of_sends from (_ ∷ os) = bytes_of_sends from os

-- after a step
pub bytes_after : (sent : List Sent) (from : Actor) (os : List Out) → bytes_of (sent ++ sends_of from os) ≡ bytes_of sent ++ bytes_in os
bytes_after sent from os =
    map-append (λ (s : Sent). s.bytes) sent (sends_of from os)
    ∙ ap (λ (t : List (List ℕ)). bytes_of sent ++ t) (bytes_of_sends from os)

pub bytes_append : (xs ys : List Out) → bytes_in (xs ++ ys) ≡ bytes_in xs ++ bytes_in ys
bytes_append [] ys = refl
bytes_append (outs.Send dest bytes ∷ xs) ys = ap (λ (t : List (List ℕ)). bytes ∷ t) (bytes_append xs ys)
bytes_append (_ ∷ xs) ys = bytes_append xs ys

-- ---- what an event delivers

-- an input that may come where these datagrams were sent; a crash delivers nothing
abbrev pub Delivers : List (List ℕ) → Stimulus → Type 0
Delivers sent (Takes x) = MayCome sent x × KeyFits x
Delivers sent Crashes = ⊤

module _ (sent : List Sent) where
  -- of these the input asks for no key
  abbrev delivered : (x : Given) (what : Stimulus) → Takes x ≡ what → MayCome (bytes_of sent) x → KeyFits x → Delivers (bytes_of sent) what
  delivered x what same may fits = subst (Delivers (bytes_of sent)) same (may, fits)

  tick_delivers : (b : Bool) (tick : Tick) (what : Stimulus) → tick_if b tick ≡ Ok what → Delivers (bytes_of sent) what
  tick_delivers true tick what e = let same : Takes (Ticked tick) ≡ what = cc in delivered (Ticked tick) what same tt tt
  tick_delivers false tick what e = absurd cc

  datagram_delivers : (index : ℕ) (o : Option Sent) (what : Stimulus) → slice_get sent index ≡ o
      → datagram_at index (length sent) o ≡ Ok what → Delivers (bytes_of sent) what
  datagram_delivers index None what is e = absurd cc
  datagram_delivers index (Some s) what is e =
      let same : Takes (Packet s.bytes) ≡ what = cc in
      delivered (Packet s.bytes) what same (inl (bytes_there sent s (index, is))) tt

  junk_delivers : (bytes : List ℕ) (r : Result Datagram Bad) (what : Stimulus) → reading bytes ≡ r → junk_of bytes r ≡ Ok what
      → Delivers (bytes_of sent) what
  junk_delivers bytes (Ok d) what is e = absurd cc
  junk_delivers bytes (Err bad) what is e =
      let same : Takes (Packet bytes) ≡ what = cc in
      delivered (Packet bytes) what same (inr (record { error = bad; refused = is })) tt

  read_delivers : (b : Bool) (observer : ℕ) (key : List ℕ) (what : Stimulus) → KeyFits (Read observer key)
      → read_if b observer key ≡ Ok what → Delivers (bytes_of sent) what
  read_delivers true observer key what fits e =
      let same : Takes (Read observer key) ≡ what = cc in delivered (Read observer key) what same tt fits
  read_delivers false observer key what fits e = absurd cc

  pub event_delivers : (config : Configuration) (x : Event) (what : Stimulus) → EventFits x → stimulus_of config sent x ≡ Ok what
      → Delivers (bytes_of sent) what
  unfolding stimulus_of
  event_delivers config (events.Submit number op) what fits e =
      let same : Takes (Submit op) ≡ what = cc in delivered (Submit op) what same tt tt
  event_delivers config (events.Deliver index actor) what fits e = datagram_delivers index (slice_get sent index) what refl e
  event_delivers config (events.Tick actor tick) what fits e = tick_delivers (takes_tick actor tick) tick what e
  event_delivers config (events.Install k j) what fits e = tick_delivers (nat_lt j config.sequencers) (ticks.Install j) what e
  event_delivers config (events.Read client observer key) what fits e =
      read_delivers (nat_lt observer config.observers) observer key what fits e
  event_delivers config (events.Crash actor) what fits e =
      let same : Crashes ≡ what = cc in subst (Delivers (bytes_of sent)) same tt
  event_delivers config (events.Junk actor bytes) what fits e = junk_delivers bytes (reading bytes) what refl e

-- ---- what came

-- may have come where more was sent
pub may_come : (sent all : List (List ℕ)) → ((bytes : List ℕ) → Has sent bytes → Has all bytes) → (x : Given) → MayCome sent x → MayCome all x
may_come sent all within (Packet bytes) (inl has) = inl (within bytes has)
may_come sent all within (Packet bytes) (inr none) = inr none
may_come sent all within _ h = tt

after_more : {S : Type 0} (m : Meaning S) (s : Observer) (xs : List Given) (x : Given)
    → after m s (xs ++ x ∷ []) ≡ (next m (after m s xs) x).0
after_more m s [] x = refl
after_more m s (y ∷ ys) x = after_more m (next m s y).0 ys x

module _ {S : Type 0} (m : Meaning S) (config : Configuration) where
  pub received_opens : (i : ℕ) → Received m config [] i (opening config i)
  received_opens i = record { inputs = []; came = λ x h. absurd (Has-none x h); is = refl }

  -- what came may have come where more was sent
  pub received_within : (sent all : List (List ℕ)) (i : ℕ) (s : Observer) → ((bytes : List ℕ) → Has sent bytes → Has all bytes)
      → Received m config sent i s → Received m config all i s
  received_within sent all i s within r =
      record { inputs = r.inputs; came = λ x h. may_come sent all within x (r.came x h); is = r.is }

  -- one input more
  pub received_goes_on : (sent : List (List ℕ)) (i : ℕ) (s : Observer) (x : Given) → Received m config sent i s → MayCome sent x
      → Received m config sent i (next m s x).0
  received_goes_on sent i s x r may = record {
    inputs = r.inputs ++ x ∷ [];
    came = λ y h. elim (Has-append_cases r.inputs (x ∷ []) y h) [
      | inl old ↦ r.came y old
      | inr new ↦ subst (MayCome sent) (sym (Has-one y x new)) may
    ];
    is = after_more m (opening config i) r.inputs x ∙ ap (λ (y : Observer). (next m y x).0) r.is;
  }

-- behind the datagrams that were sent
pub before_more : (sent more : List (List ℕ)) (bytes : List ℕ) → Has sent bytes → Has (sent ++ more) bytes
before_more sent more bytes h = Has-append_left sent more bytes h
