-- What is not for a controller.
use Rattle.std.specs.Prelude.{◌≡◌, ℕ, List, [], Bool, true, false, ◌==◌, ◌&&◌, ◌||◌, nat_lt, Ok, Err}
use Rattle.nop_types.specs.Given.{Given, Packet}
use Rattle.nop_types.specs.declared.input.Tick.{Tick}
use Rattle.nop_types.specs.declared.input.Tick.TheVariants as ticks
use Rattle.nop_types.specs.declared.datagram.Datagram.{Datagram}
use Rattle.nop_types.specs.declared.datagram.Datagram.TheVariants as datagrams
use Rattle.oum_codec.specs.declared.bad.Bad.{Bad}
use Rattle.oum_codec.specs.Reading.{reading}
use Rattle.session_control.specs.declared.state.ControllerState.{ControllerState}
use Rattle.session_control.specs.ControllerSteps.{next}

-- it confirms the session, or is above that and above all that were seen
abbrev pub is_news : ControllerState → ℕ → ℕ → Bool
is_news s sequencer session =
    ((sequencer == s.current) && (session == s.session)) || (nat_lt s.session session && nat_lt s.seen session)

-- an answer of the current sequencer, to the last probe or for the session, or a greater session, for this controller
abbrev pub is_for : ControllerState → Datagram → Bool
is_for s (datagrams.Pong controller sequencer round) =
    (controller == s.number) && ((sequencer == s.current) && (round == s.round))
is_for s (datagrams.Installed controller sequencer session) = (controller == s.number) && is_news s sequencer session
is_for s _ = false

-- a probe, a resend, or an order to move to a sequencer that is there
abbrev pub is_tick_for : ControllerState → Tick → Bool
is_tick_for s ticks.Probe = true
is_tick_for s ticks.Resend = true
is_tick_for s (ticks.Install j) = nat_lt j s.config.sequencers
is_tick_for s _ = false

-- the input changes nothing, and nothing is sent
abbrev pub IsIgnored : ControllerState → Given → Type 0
IsIgnored s x = next s x ≡ (s, [])

-- bytes that spell nothing, and datagrams for others
pub record IgnoresPacket (s : ControllerState) (bytes : List ℕ) : Type 0 where
  pub unread : (e : Bad) → reading bytes ≡ Err e → IsIgnored s (Packet bytes)
  pub others : (d : Datagram) → reading bytes ≡ Ok d → is_for s d ≡ false → IsIgnored s (Packet bytes)
