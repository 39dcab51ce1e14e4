-- The step table of the controller.
use Rattle.std.specs.Prelude.{◌≡◌, ℕ, ◌+◌, ◌*◌, ◌-◌, ◌^◌, ◌%◌, ◌<◌, List, [], ◌∷◌, Bool, true, false, Result, Ok, IsTrue, nat_lt}
use Rattle.std.specs.Prelude.{nat_le, ◌==◌, ◌&&◌, Option, Some, None, cond, max}
use Rattle.nop_types.specs.Configuration.{Configuration, is_configuration}
use Rattle.nop_types.specs.Ranges.{SessionFits}
use Rattle.nop_types.specs.Sessions.{epoch, count, session_of, home, opening_session}
use Rattle.nop_types.specs.declared.limits.TheConstants.{MAX_CONTROLLERS, EPOCH_STEP}
use Rattle.nop_types.specs.Given.{Given, Packet, Ticked}
use Rattle.nop_types.specs.declared.input.Tick.{Tick}
use Rattle.nop_types.specs.declared.input.Tick.TheVariants as ticks
use Rattle.nop_types.specs.declared.output.Out.{Out}
use Rattle.nop_types.specs.declared.output.Out.TheVariants.{Send}
use Rattle.nop_types.specs.declared.output.Dest.TheVariants.{One}
use Rattle.nop_types.specs.declared.output.Actor.TheVariants.{Sequencer}
use Rattle.nop_types.specs.declared.datagram.Datagram.{Datagram}
use Rattle.nop_types.specs.declared.datagram.Datagram.TheVariants as datagrams
use Rattle.oum_codec.specs.declared.bad.Bad.{Bad}
use Rattle.oum_codec.specs.Reading.{reading}
use Rattle.oum_codec.specs.Spelling.{spelling}
use Rattle.session_control.specs.declared.state.ControllerState.{ControllerState}
use Rattle.session_control.specs.declared.state.TheConstants.{MISSED_END, RESEND_MILLIS, PROBE_MILLIS}

-- within the limits, and its session is one that it gives out
pub record IsWithin (s : ControllerState) : Type 0 where
  pub config : IsTrue (is_configuration s.config)
  pub number : s.number < MAX_CONTROLLERS
  pub session : SessionFits s.session
  pub own : home s.session ≡ s.number
  pub seen : s.seen < 2 ^ 64
  pub current : s.current < s.config.sequencers
  pub missed : s.missed < MISSED_END

-- a controller with this number: its session is its first one, and it saw no other's
abbrev pub opening : Configuration → ℕ → ControllerState
opening config number =
    record {
      config = config;
      number = number;
      session = opening_session number;
      seen = 0;
      current = 0;
      confirmed = true;
      round = 0;
      heard = true;
      missed = 0;
    }

abbrev pub timers : List (Tick × ℕ)
timers = (ticks.Resend, RESEND_MILLIS) ∷ (ticks.Probe, PROBE_MILLIS) ∷ []

-- counts of sessions and rounds do not rise above this one
abbrev pub last_number : ℕ
last_number = 2 ^ 32 - 1

-- ---- the next session

-- the least epoch above e that is j modulo the number of steps
abbrev pub epoch_above : ℕ → ℕ → ℕ
epoch_above e j = e + 1 + (j + (EPOCH_STEP - 1) * (e + 1)) % EPOCH_STEP

-- the first session of an epoch, while epochs fit 32 bits
abbrev pub first_of : ℕ → Option ℕ
first_of e = cond (nat_lt e (2 ^ 32)) (Some (session_of e 1)) None

-- the next count, or the next own epoch
abbrev pub counted_on : ℕ → Option ℕ
counted_on session = cond (nat_lt (count session) last_number) (Some (session + 1)) (first_of (epoch session + EPOCH_STEP))

-- where a greater session was seen, the controller goes to an epoch above that one's
abbrev pub next_session : (number session seen : ℕ) → Option ℕ
next_session number session seen = cond (nat_lt session seen) (first_of (epoch_above (epoch seen) number)) (counted_on session)

-- ---- a move

-- the current sequencer is told its session
abbrev pub install_of : ControllerState → List Out
install_of s = Send (One (Sequencer s.current)) (spelling (datagrams.Install s.number s.current s.session)) ∷ []

abbrev pub moved : ControllerState → ℕ → ℕ → ControllerState
moved s j session = record s { session = session; current = j; confirmed = false; missed = 0; heard = true }

abbrev pub move_by : Option ℕ → ControllerState → ℕ → ControllerState × List Out
move_by (Some session) s j = (moved s j session, install_of (moved s j session))
move_by None s j = (s, [])

-- to the sequencer j, under the next session, where there is one
abbrev pub move_to : ControllerState → ℕ → ControllerState × List Out
move_to s j = move_by (next_session s.number s.session s.seen) s j

-- an order from outside
abbrev pub order_if : Bool → ControllerState → ℕ → ControllerState × List Out
order_if true s j = move_to s j
order_if false s j = (s, [])

abbrev pub order_move : ControllerState → ℕ → ControllerState × List Out
order_move s j = order_if (nat_lt j s.config.sequencers) s j

-- ---- a probe

abbrev pub asked : ControllerState → ControllerState
asked s = record s { round = s.round + 1; heard = false }

abbrev pub ask_if : Bool → ControllerState → ControllerState × List Out
ask_if true s = (asked s, Send (One (Sequencer s.current)) (spelling (datagrams.Ping s.number s.current (s.round + 1))) ∷ [])
ask_if false s = (s, [])

-- the current sequencer is pinged in the next round
abbrev pub ask : ControllerState → ControllerState × List Out
ask s = ask_if (nat_lt s.round last_number) s

-- the next sequencer in a circle
abbrev pub following : ControllerState → ℕ
following s = (s.current + 1) % s.config.sequencers

-- one more probe was not answered: too many in a row make it move
abbrev pub miss_if : Bool → ControllerState → ControllerState × List Out
miss_if true s = move_to s (following s)
miss_if false s = ask (record s { missed = s.missed + 1 })

abbrev pub probe_if : Bool → ControllerState → ControllerState × List Out
probe_if true s = ask s
probe_if false s = miss_if (nat_le MISSED_END (s.missed + 1)) s

abbrev pub probe : ControllerState → ControllerState × List Out
probe s = probe_if s.heard s

abbrev pub heard_if : Bool → ControllerState → ControllerState
heard_if true s = record s { heard = true; missed = 0 }
heard_if false s = s

-- the current sequencer answered the last probe of this controller
abbrev pub pong : ControllerState → ℕ → ℕ → ℕ → ControllerState × List Out
pong s controller sequencer round = (heard_if ((controller == s.number) && ((sequencer == s.current) && (round == s.round))) s, [])

-- ---- a session is confirmed

abbrev pub resend_if : Bool → ControllerState → ControllerState × List Out
resend_if true s = (s, [])
resend_if false s = (s, install_of s)

-- while it is not confirmed, the current sequencer is told its session again
abbrev pub resend_install : ControllerState → ControllerState × List Out
resend_install s = resend_if s.confirmed s

abbrev pub confirmed_if : Bool → ControllerState → ControllerState
confirmed_if true s = record s { confirmed = true }
confirmed_if false s = s

-- a sequencer has a session above this controller's
abbrev pub seen_if : Bool → ControllerState → ℕ → ControllerState
seen_if true s session = record s { seen = max s.seen session }
seen_if false s session = s

abbrev pub installed_if : Bool → ControllerState → ℕ → ℕ → ControllerState
installed_if true s sequencer session =
    confirmed_if ((sequencer == s.current) && (session == s.session)) (seen_if (nat_lt s.session session) s session)
installed_if false s sequencer session = s

-- a sequencer tells this controller its session
abbrev pub installed : ControllerState → ℕ → ℕ → ℕ → ControllerState × List Out
installed s controller sequencer session = (installed_if (controller == s.number) s sequencer session, [])

-- ---- all rows

abbrev pub on_tick : ControllerState → Tick → ControllerState × List Out
on_tick s ticks.Probe = probe s
on_tick s ticks.Resend = resend_install s
on_tick s (ticks.Install j) = order_move s j
on_tick s _ = (s, [])

abbrev pub on_datagram : ControllerState → Result Datagram Bad → ControllerState × List Out
on_datagram s (Ok (datagrams.Pong controller sequencer round)) = pong s controller sequencer round
on_datagram s (Ok (datagrams.Installed controller sequencer session)) = installed s controller sequencer session
on_datagram s _ = (s, [])

unfoldable pub next : ControllerState → Given → ControllerState × List Out
next s (Packet bytes) = on_datagram s (reading bytes)
next s (Ticked tick) = on_tick s tick
next s _ = (s, [])
