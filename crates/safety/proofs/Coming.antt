-- What an event delivers to its actor was sent, or is no datagram; a key that it asks for is in its ranges, of an observer that is there.
use Rattle.std.proofs.Common.{◌≡◌, ◌<◌, ◌≤◌, ℕ, Bool, true, false, Option, Some, None, refl, subst, inl, inr, List, length}
use Rattle.std.specs.Prelude.{⊤, nat_lt, Result, Ok, Err, slice_get}
use Rattle.std.proofs.lemmas.Bool.{ltb-true}
use Rattle.nop_types.specs.Configuration.{Configuration}
use Rattle.nop_types.specs.Given.{Given, Packet, Ticked, Submit, Read}
use Rattle.nop_types.specs.declared.datagram.Datagram.{Datagram}
use Rattle.nop_types.specs.declared.limits.TheConstants.{MAX_KEY_BYTES}
use Rattle.nop_types.specs.declared.input.Tick.{Tick}
use Rattle.nop_types.specs.declared.input.Tick.TheVariants as ticks
use Rattle.oum_codec.specs.declared.bad.Bad.{Bad}
use Rattle.oum_codec.specs.Reading.{reading}
use Rattle.schedule_text.specs.declared.event.Event.{Event}
use Rattle.schedule_text.specs.declared.event.Event.TheVariants as events
use Rattle.schedule_text.specs.Fits.{EventFits}
use Rattle.schedule_text.specs.Ticks.{takes_tick}
use Rattle.network.specs.Network.{Sent}
use Rattle.world.specs.Seats.{Stimulus, Takes, Crashes}
use Rattle.world.specs.WorldSteps.{tick_if, read_if, datagram_at, junk_of, stimulus_of}
use Rattle.network_laws.specs.Network.{MayCome}
use Rattle.safety.specs.Following.{bytes_of}
use Rattle.safety.proofs.Outputs.{bytes_there}

-- the input may come where these datagrams were sent; a crash delivers nothing
abbrev pub AllMayCome : List (List ℕ) → Stimulus → Type 0
AllMayCome sent (Takes i) = MayCome sent i
AllMayCome sent Crashes = ⊤

module _ (sent : List Sent) where
  tick_comes : (b : Bool) (tick : Tick) (what : Stimulus) → tick_if b tick ≡ Ok what → AllMayCome (bytes_of sent) what
  tick_comes true tick what e = let same : Takes (Ticked tick) ≡ what = cc in subst (AllMayCome (bytes_of sent)) same tt
  tick_comes false tick what e = absurd cc

  read_comes : (b : Bool) (observer : ℕ) (key : List ℕ) (what : Stimulus) → read_if b observer key ≡ Ok what
      → AllMayCome (bytes_of sent) what
  read_comes true observer key what e =
      let same : Takes (Read observer key) ≡ what = cc in subst (AllMayCome (bytes_of sent)) same tt
  read_comes false observer key what e = absurd cc

  datagram_comes : (index : ℕ) (o : Option Sent) (what : Stimulus) → slice_get sent index ≡ o → datagram_at index (length sent) o ≡ Ok what
      → AllMayCome (bytes_of sent) what
  datagram_comes index None what is e = absurd cc
  datagram_comes index (Some s) what is e =
      let same : Takes (Packet s.bytes) ≡ what = cc in
      subst (AllMayCome (bytes_of sent)) same (inl (bytes_there sent s (index, is)))

  junk_comes : (bytes : List ℕ) (r : Result Datagram Bad) (what : Stimulus) → reading bytes ≡ r → junk_of bytes r ≡ Ok what
      → AllMayCome (bytes_of sent) what
  junk_comes bytes (Ok d) what is e = absurd cc
  junk_comes bytes (Err bad) what is e =
      let same : Takes (Packet bytes) ≡ what = cc in
      subst (AllMayCome (bytes_of sent)) same (inr (record { error = bad; refused = is }))

  pub event_comes : (config : Configuration) (x : Event) (what : Stimulus) → stimulus_of config sent x ≡ Ok what
      → AllMayCome (bytes_of sent) what
  unfolding stimulus_of
  event_comes config (events.Submit number op) what e =
      let same : Takes (Submit op) ≡ what = cc in subst (AllMayCome (bytes_of sent)) same tt
  event_comes config (events.Deliver index actor) what e = datagram_comes index (slice_get sent index) what refl e
  event_comes config (events.Tick actor tick) what e = tick_comes (takes_tick actor tick) tick what e
  event_comes config (events.Install k j) what e = tick_comes (nat_lt j config.sequencers) (ticks.Install j) what e
  event_comes config (events.Read client observer key) what e = read_comes (nat_lt observer config.observers) observer key what e
  event_comes config (events.Crash actor) what e = let same : Crashes ≡ what = cc in subst (AllMayCome (bytes_of sent)) same tt
  event_comes config (events.Junk actor bytes) what e = junk_comes bytes (reading bytes) what refl e

-- ---- reads

-- a key in its ranges is asked of an observer of the configuration
abbrev pub IsAskedOf : Configuration → Given → Type 0
IsAskedOf config (Read observer key) = (observer < config.observers) × ((1 ≤ length key) × (length key ≤ MAX_KEY_BYTES))
IsAskedOf config _ = ⊤

abbrev pub AllAskedOf : Configuration → Stimulus → Type 0
AllAskedOf config (Takes i) = IsAskedOf config i
AllAskedOf config Crashes = ⊤

module _ (config : Configuration) where
  tick_asks : (b : Bool) (tick : Tick) (what : Stimulus) → tick_if b tick ≡ Ok what → AllAskedOf config what
  tick_asks true tick what e = let same : Takes (Ticked tick) ≡ what = cc in subst (AllAskedOf config) same tt
  tick_asks false tick what e = absurd cc

  read_asks : (b : Bool) (observer : ℕ) (key : List ℕ) (what : Stimulus) → (1 ≤ length key) × (length key ≤ MAX_KEY_BYTES)
      → nat_lt observer config.observers ≡ b → read_if b observer key ≡ Ok what → AllAskedOf config what
  read_asks true observer key what fits is e =
      let same : Takes (Read observer key) ≡ what = cc in
      subst (AllAskedOf config) same (ltb-true observer config.observers is, fits)
  read_asks false observer key what fits is e = absurd cc

  datagram_asks : (index count : ℕ) (o : Option Sent) (what : Stimulus) → datagram_at index count o ≡ Ok what → AllAskedOf config what
  datagram_asks index count None what e = absurd cc
  datagram_asks index count (Some s) what e =
      let same : Takes (Packet s.bytes) ≡ what = cc in subst (AllAskedOf config) same tt

  junk_asks : (bytes : List ℕ) (r : Result Datagram Bad) (what : Stimulus) → junk_of bytes r ≡ Ok what → AllAskedOf config what
  junk_asks bytes (Ok d) what e = absurd cc
  junk_asks bytes (Err bad) what e = let same : Takes (Packet bytes) ≡ what = cc in subst (AllAskedOf config) same tt

  pub event_asks : (sent : List Sent) (x : Event) (what : Stimulus) → EventFits x → stimulus_of config sent x ≡ Ok what
      → AllAskedOf config what
  unfolding stimulus_of
  event_asks sent (events.Submit number op) what fits e =
      let same : Takes (Submit op) ≡ what = cc in subst (AllAskedOf config) same tt
  event_asks sent (events.Deliver index actor) what fits e = datagram_asks index (length sent) (slice_get sent index) what e
  event_asks sent (events.Tick actor tick) what fits e = tick_asks (takes_tick actor tick) tick what e
  event_asks sent (events.Install k j) what fits e = tick_asks (nat_lt j config.sequencers) (ticks.Install j) what e
  event_asks sent (events.Read client observer key) what fits e =
      read_asks (nat_lt observer config.observers) observer key what fits refl e
  event_asks sent (events.Crash actor) what fits e = let same : Crashes ≡ what = cc in subst (AllAskedOf config) same tt
  event_asks sent (events.Junk actor bytes) what fits e = junk_asks bytes (reading bytes) what e
