-- What is not for a sequencer.
use Rattle.std.specs.Prelude.{◌≡◌, ℕ, List, [], Bool, false, ◌==◌, Ok, Err}
use Rattle.nop_types.specs.Given.{Given, Packet}
use Rattle.nop_types.specs.declared.datagram.Datagram.{Datagram}
use Rattle.nop_types.specs.declared.datagram.Datagram.TheVariants as datagrams
use Rattle.oum_codec.specs.declared.bad.Bad.{Bad}
use Rattle.oum_codec.specs.Reading.{reading}
use Rattle.sequencer.specs.declared.state.SequencerState.{SequencerState}
use Rattle.sequencer.specs.SequencerSteps.{can_stamp, next}

-- a request where it can be stamped, and an Install or a Ping of its number, of whatever session
abbrev pub is_for : SequencerState → Datagram → Bool
is_for s (datagrams.Request r) = can_stamp s
is_for s (datagrams.Install controller sequencer session) = sequencer == s.number
is_for s (datagrams.Ping controller sequencer round) = sequencer == s.number
is_for s _ = false

-- the input changes nothing, and nothing is sent
abbrev pub IsIgnored : SequencerState → Given → Type 0
IsIgnored s x = next s x ≡ (s, [])

-- bytes that spell nothing, and datagrams for others
pub record IgnoresPacket (s : SequencerState) (bytes : List ℕ) : Type 0 where
  pub unread : (e : Bad) → reading bytes ≡ Err e → IsIgnored s (Packet bytes)
  pub others : (d : Datagram) → reading bytes ≡ Ok d → is_for s d ≡ false → IsIgnored s (Packet bytes)
