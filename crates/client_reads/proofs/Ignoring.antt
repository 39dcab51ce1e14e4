-- What is not for a client's reads changes nothing.
use Rattle.std.proofs.Common.{◌≡◌, ℕ, List, [], refl, Bool, true, false, Result, Ok, Err}
use Rattle.nop_types.specs.Given.{Packet, Submit, Ticked}
use Rattle.nop_types.specs.declared.input.Tick.{Tick}
use Rattle.nop_types.specs.declared.input.Tick.TheVariants as ticks
use Rattle.nop_types.specs.declared.output.Out.{Out}
use Rattle.nop_types.specs.declared.datagram.Answer.{Answer}
use Rattle.nop_types.specs.declared.datagram.Datagram.{Datagram}
use Rattle.nop_types.specs.declared.datagram.Datagram.TheVariants as datagrams
use Rattle.oum_codec.specs.declared.bad.Bad.{Bad}
use Rattle.oum_codec.specs.Reading.{reading}
use Rattle.client_reads.specs.declared.state.Reads.{Reads}
use Rattle.client_reads.specs.ReadSteps.{is_expected, answer_if, on_tick, on_datagram, next}
use Rattle.client_reads.specs.Ignoring.{is_for, is_tick_for, IsIgnored, IgnoresPacket}

-- nothing is changed or sent
abbrev Rests : Reads → Reads × List Out → Type 0
Rests s r = r ≡ (s, [])

not_expected : (s : Reads) (a : Answer) (b : Bool) → b ≡ false → Rests s (answer_if b s a)
not_expected s a false e = refl
not_expected s a true e = absurd cc

rests : (s : Reads) (d : Datagram) → is_for s d ≡ false → Rests s (on_datagram s (Ok d))
rests s (datagrams.Answer a) e = not_expected s a (is_expected s a) e
rests s _ e = refl

read_rests : (s : Reads) (bytes : List ℕ) (r : Result Datagram Bad) → reading bytes ≡ r → Rests s (on_datagram s r)
    → IsIgnored s (Packet bytes)
unfolding next
read_rests s bytes r e rest = rw e rest

pub ignores_packet : (s : Reads) (bytes : List ℕ) → IgnoresPacket s bytes
ignores_packet s bytes = record {
  unread = λ e is. read_rests s bytes (Err e) is refl;
  others = λ d is other. read_rests s bytes (Ok d) is (rests s d other);
}

tick_rests : (s : Reads) (tick : Tick) → is_tick_for tick ≡ false → Rests s (on_tick s tick)
tick_rests s ticks.Retry e = absurd cc
tick_rests s _ e = refl

pub ignores_tick : (s : Reads) (tick : Tick) → is_tick_for tick ≡ false → IsIgnored s (Ticked tick)
unfolding next
ignores_tick s tick e = tick_rests s tick e

pub ignores_op : (s : Reads) (op : List ℕ) → IsIgnored s (Submit op)
unfolding next
ignores_op s op = refl
