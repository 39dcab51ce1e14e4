-- What is not for a sequencer changes nothing.
use Rattle.std.proofs.Common.{◌≡◌, ℕ, List, [], refl, Bool, true, false, Result, Ok, Err}
use Rattle.nop_types.specs.Given.{Packet, Ticked, Submit, Read}
use Rattle.nop_types.specs.declared.input.Tick.{Tick}
use Rattle.nop_types.specs.declared.output.Out.{Out}
use Rattle.nop_types.specs.declared.request.Request.{Request}
use Rattle.nop_types.specs.declared.datagram.Datagram.{Datagram}
use Rattle.nop_types.specs.declared.datagram.Datagram.TheVariants as datagrams
use Rattle.oum_codec.specs.declared.bad.Bad.{Bad}
use Rattle.oum_codec.specs.Reading.{reading}
use Rattle.sequencer.specs.declared.state.SequencerState.{SequencerState}
use Rattle.sequencer.specs.SequencerSteps.{can_stamp, stamp, install_if, ping_if, on_datagram, next}
use Rattle.sequencer.specs.Ignoring.{is_for, IsIgnored, IgnoresPacket}

-- nothing is changed or sent
abbrev Rests : SequencerState → SequencerState × List Out → Type 0
Rests s r = r ≡ (s, [])

unstamped : (s : SequencerState) (r : Request) → can_stamp s ≡ false → Rests s (stamp s r)
unstamped s r e = rw e refl

not_installed : (s : SequencerState) (k session : ℕ) (b : Bool) → b ≡ false → Rests s (install_if b s k session)
not_installed s k session false e = refl
not_installed s k session true e = absurd cc

not_pinged : (s : SequencerState) (k round : ℕ) (b : Bool) → b ≡ false → Rests s (ping_if b s k round)
not_pinged s k round false e = refl
not_pinged s k round true e = absurd cc

rests : (s : SequencerState) (d : Datagram) → is_for s d ≡ false → Rests s (on_datagram s (Ok d))
rests s (datagrams.Request r) e = unstamped s r e
rests s (datagrams.Install controller sequencer session) e = not_installed s controller session _ e
rests s (datagrams.Ping controller sequencer round) e = not_pinged s controller round _ e
rests s _ e = refl

read_rests : (s : SequencerState) (bytes : List ℕ) (r : Result Datagram Bad) → reading bytes ≡ r → Rests s (on_datagram s r)
    → IsIgnored s (Packet bytes)
unfolding next
read_rests s bytes r e rest = rw e rest

pub ignores_packet : (s : SequencerState) (bytes : List ℕ) → IgnoresPacket s bytes
ignores_packet s bytes = record {
  unread = λ e is. read_rests s bytes (Err e) is refl;
  others = λ d is other. read_rests s bytes (Ok d) is (rests s d other);
}

pub ignores_tick : (s : SequencerState) (tick : Tick) → IsIgnored s (Ticked tick)
unfolding next
ignores_tick s tick = refl

pub ignores_op : (s : SequencerState) (op : List ℕ) → IsIgnored s (Submit op)
unfolding next
ignores_op s op = refl

pub ignores_read : (s : SequencerState) (observer : ℕ) (key : List ℕ) → IsIgnored s (Read observer key)
unfolding next
ignores_read s observer key = refl
