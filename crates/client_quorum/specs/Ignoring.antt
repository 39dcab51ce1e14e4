-- What is not for a client.
use Rattle.std.specs.Prelude.{◌≡◌, ℕ, List, [], Bool, true, false, Ok, Err}
use Rattle.nop_types.specs.Given.{Given, Packet}
use Rattle.nop_types.specs.declared.input.Tick.{Tick}
use Rattle.nop_types.specs.declared.input.Tick.TheVariants as ticks
use Rattle.nop_types.specs.declared.datagram.Datagram.{Datagram}
use Rattle.nop_types.specs.declared.datagram.Datagram.TheVariants as datagrams
use Rattle.oum_codec.specs.declared.bad.Bad.{Bad}
use Rattle.oum_codec.specs.Reading.{reading}
use Rattle.client_quorum.specs.declared.state.ClientState.{ClientState}
use Rattle.client_quorum.specs.ClientSteps.{is_expected, next}

-- a reply of a replica to one of its open requests
abbrev pub is_for : ClientState → Datagram → Bool
is_for s (datagrams.Reply p) = is_expected s p
is_for s _ = false

abbrev pub is_tick_for : Tick → Bool
is_tick_for ticks.Next = true
is_tick_for ticks.Retry = true
is_tick_for _ = false

-- the input changes nothing, and nothing is sent
abbrev pub IsIgnored : ClientState → Given → Type 0
IsIgnored s x = next s x ≡ (s, [])

-- bytes that spell nothing, and datagrams for others
pub record IgnoresPacket (s : ClientState) (bytes : List ℕ) : Type 0 where
  pub unread : (e : Bad) → reading bytes ≡ Err e → IsIgnored s (Packet bytes)
  pub others : (d : Datagram) → reading bytes ≡ Ok d → is_for s d ≡ false → IsIgnored s (Packet bytes)
