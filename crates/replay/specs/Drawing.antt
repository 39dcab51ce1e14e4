-- How an event is drawn from a generator of random words.
use Rattle.std.specs.Prelude.{ℕ, ◌+◌, ◌-◌, ◌%◌, List, [], ◌∷◌, length, min, Option, Some, None, nat_le, ◌==◌, if◌then◌else◌}
use Rattle.std.specs.Prelude.{slice_get}
use Rattle.rand_pcg.specs.Lcg.{Lcg, started, increment_of}
use Rattle.rand_pcg.specs.Pcg.{multiplier_64, pcg32}
use Rattle.nop_types.specs.declared.input.Tick.{Tick}
use Rattle.nop_types.specs.declared.input.Tick.TheVariants as ticks
use Rattle.nop_types.specs.declared.output.Actor.{Actor}
use Rattle.nop_types.specs.declared.output.Actor.TheVariants.{Replica, Sequencer, Client, Controller}
use Rattle.nop_types.specs.declared.output.Dest.{Dest}
use Rattle.nop_types.specs.declared.output.Dest.TheVariants.{Replicas, Sequencers, One}
use Rattle.schedule_text.specs.declared.event.Event.{Event}
use Rattle.schedule_text.specs.declared.event.Event.TheVariants as events
use Rattle.network.specs.Network.{Sent}

-- ---- words

-- the generator of a number, whose stream is 1
unfoldable pub generator_of : ℕ → Lcg
generator_of number = started 64 multiplier_64 number (increment_of 64 1)

-- something that is drawn from a generator, and the generator after it
abbrev pub Draw : Type 0 → Type 0
Draw A = Lcg → A × Lcg

-- the next word of 32 bits, modulo n
unfoldable pub draw : ℕ → Draw ℕ
draw n g = ((pcg32 g).0 % n, (pcg32 g).1)

-- nothing is drawn
abbrev pub gives : {A : Type 0} → A → Draw A
gives x g = (x, g)

-- one after the other
infixl 10 ◌>>=◌
abbrev pub ◌>>=◌ : {A B : Type 0} → (Lcg → A × Lcg) → (A → Lcg → B × Lcg) → Lcg → B × Lcg
d >>= f = λ g. f (d g).0 (d g).1

-- ---- events

-- a key of one byte, `a` to `h`, and a value of one byte, `a` to `z`
abbrev pub key_drawn : Draw ℕ
key_drawn = do
  n ← draw 8
  gives (97 + n)

abbrev pub value_drawn : Draw ℕ
value_drawn = do
  n ← draw 26
  gives (97 + n)

-- the op that gets a key, and the one that puts a value
abbrev pub get_of : ℕ → List ℕ
get_of key = 71 ∷ 0 ∷ 1 ∷ key ∷ []

abbrev pub put_of : ℕ → ℕ → List ℕ
put_of key value = 80 ∷ 0 ∷ 1 ∷ key ∷ 0 ∷ 1 ∷ value ∷ []

abbrev pub put_drawn : Draw Event
put_drawn = do
  client ← draw 4
  key ← key_drawn
  value ← value_drawn
  gives (events.Submit client (put_of key value))

abbrev pub get_drawn : Draw Event
get_drawn = do
  client ← draw 4
  key ← key_drawn
  gives (events.Submit client (get_of key))

-- the actor that takes a datagram: one of those that it was sent to
abbrev pub taker_drawn : Dest → Draw Actor
taker_drawn Replicas = do
  i ← draw 5
  gives (Replica i)
taker_drawn Sequencers = do
  j ← draw 2
  gives (Sequencer j)
taker_drawn (One actor) = gives actor

-- no datagram has the index only where none was sent
abbrev pub delivery_drawn : ℕ → Option Sent → Draw Event
delivery_drawn index None = gives (events.Deliver index (Controller 0))
delivery_drawn index (Some s) = do
  taker ← taker_drawn s.dest
  gives (events.Deliver index taker)

-- how far back among so many datagrams: one of the last 32
abbrev pub back_drawn : ℕ → Draw ℕ
back_drawn count = draw (min count 32)

abbrev pub deliver_drawn : List Sent → Draw Event
deliver_drawn sent = do
  back ← back_drawn (length sent)
  delivery_drawn (length sent - 1 - back) (slice_get sent (length sent - 1 - back))

abbrev pub replica_tick_drawn : Tick → Draw Event
replica_tick_drawn tick = do
  i ← draw 5
  gives (events.Tick (Replica i) tick)

abbrev pub retry_drawn : Draw Event
retry_drawn = do
  client ← draw 4
  gives (events.Tick (Client client) ticks.Retry)

abbrev pub crash_drawn : Draw Event
crash_drawn = do
  i ← draw 2
  gives (events.Crash (Replica (3 + i)))

abbrev pub install_drawn : Draw Event
install_drawn = do
  j ← draw 2
  gives (events.Install 0 j)

abbrev pub crash_or_install : ℕ → Draw Event
crash_or_install n = if n == 0 then crash_drawn else install_drawn

-- one in sixteen is a crash
abbrev pub rare_drawn : Draw Event
rare_drawn = draw 16 >>= crash_or_install

-- a put, a get or a delivery, by a number below 242
abbrev pub often_drawn : List Sent → ℕ → Draw Event
often_drawn sent n =
    if nat_le n 19 then put_drawn
    else if nat_le n 27 then get_drawn
    else deliver_drawn sent

-- a timer, or what is rare, by a number from 242 on
abbrev pub seldom_drawn : ℕ → Draw Event
seldom_drawn n =
    if nat_le n 247 then replica_tick_drawn ticks.Resend
    else if nat_le n 249 then replica_tick_drawn ticks.Sync
    else if nat_le n 251 then retry_drawn
    else if n == 252 then replica_tick_drawn ticks.Suspect
    else if n == 253 then gives (events.Tick (Controller 0) ticks.Probe)
    else if n == 254 then gives (events.Tick (Controller 0) ticks.Resend)
    else rare_drawn

-- by a number below 256
abbrev pub event_by : List Sent → ℕ → Draw Event
event_by sent n = if nat_le n 241 then often_drawn sent n else seldom_drawn n

-- the event that is drawn where these datagrams were sent
unfoldable pub event_drawn : List Sent → Draw Event
event_drawn sent = draw 256 >>= event_by sent
