-- What is not for a controller changes nothing.
use Rattle.std.proofs.Common.{◌≡◌, ◌+◌, ◌^◌, ◌≤◌, ◌<◌, ℕ, List, [], refl, ap, Option, Some, None, Bool, true, false, Result, Ok, Err}
use Rattle.std.proofs.Common.{arith}
use Rattle.std.specs.Prelude.{◌&&◌, ◌||◌, nat_lt, max}
use Rattle.std.proofs.lemmas.Bool.Decides.{nat_tests}
use Rattle.nop_types.specs.Given.{Packet, Ticked, Submit, Read}
use Rattle.nop_types.specs.Sessions.{epoch, count}
use Rattle.nop_types.specs.declared.limits.TheConstants.{EPOCH_STEP}
use Rattle.nop_types.specs.declared.input.Tick.{Tick}
use Rattle.nop_types.specs.declared.input.Tick.TheVariants as ticks
use Rattle.nop_types.specs.declared.output.Out.{Out}
use Rattle.nop_types.specs.declared.datagram.Datagram.{Datagram}
use Rattle.nop_types.specs.declared.datagram.Datagram.TheVariants as datagrams
use Rattle.oum_codec.specs.declared.bad.Bad.{Bad}
use Rattle.oum_codec.specs.Reading.{reading}
use Rattle.session_control.specs.declared.state.ControllerState.{ControllerState}
use Rattle.session_control.specs.ControllerSteps.{last_number, epoch_above, move_by, move_to, order_if}
use Rattle.session_control.specs.ControllerSteps.{heard_if, confirmed_if, seen_if, installed_if, on_tick, on_datagram, next}
use Rattle.session_control.specs.Ignoring.{is_news, is_for, is_tick_for, IsIgnored, IgnoresPacket}
use Rattle.session_control.proofs.Epochs.{none_above, none_after}

-- nothing is changed or sent
abbrev Rests : ControllerState → ControllerState × List Out → Type 0
Rests s r = r ≡ (s, [])

not_heard : (s : ControllerState) (b : Bool) → b ≡ false → heard_if b s ≡ s
not_heard s false e = refl
not_heard s true e = absurd cc

-- a session above the controller's own, but not above what it saw
seen_before : (s : ControllerState) (session : ℕ) → session ≤ s.seen → record s { seen = max s.seen session } ≡ s
seen_before s session low =
    let e : max s.seen session ≡ s.seen = omega arith in ap (λ (n : ℕ). let t : ControllerState = record s { seen = n } in t) e

not_news : (b c : Bool) (s : ControllerState) (session : ℕ) → nat_lt s.session session ≡ c → (b || (c && nat_lt s.seen session)) ≡ false
    → confirmed_if b (seen_if c s session) ≡ s
not_news true c s session test e = absurd cc
not_news false true s session test e = seen_before s session (grind (arith, nat_tests, e))
not_news false false s session test e = refl

not_installed : (b : Bool) (s : ControllerState) (sequencer session : ℕ) → (b && is_news s sequencer session) ≡ false
    → installed_if b s sequencer session ≡ s
not_installed true s sequencer session e = not_news _ (nat_lt s.session session) s session refl e
not_installed false s sequencer session e = refl

rests : (s : ControllerState) (d : Datagram) → is_for s d ≡ false → Rests s (on_datagram s (Ok d))
rests s (datagrams.Pong controller sequencer round) e = rw (not_heard s _ e) refl
rests s (datagrams.Installed controller sequencer session) e = rw (not_installed _ s sequencer session e) refl
rests s _ e = refl

read_rests : (s : ControllerState) (bytes : List ℕ) (r : Result Datagram Bad) → reading bytes ≡ r → Rests s (on_datagram s r)
    → IsIgnored s (Packet bytes)
unfolding next
read_rests s bytes r e rest = rw e rest

pub ignores_packet : (s : ControllerState) (bytes : List ℕ) → IgnoresPacket s bytes
ignores_packet s bytes = record {
  unread = λ e is. read_rests s bytes (Err e) is refl;
  others = λ d is other. read_rests s bytes (Ok d) is (rests s d other);
}

not_ordered : (s : ControllerState) (j : ℕ) (b : Bool) → b ≡ false → Rests s (order_if b s j)
not_ordered s j false e = refl
not_ordered s j true e = absurd cc

tick_rests : (s : ControllerState) (tick : Tick) → is_tick_for s tick ≡ false → Rests s (on_tick s tick)
tick_rests s ticks.Probe e = absurd cc
tick_rests s ticks.Resend e = absurd cc
tick_rests s (ticks.Install j) e = not_ordered s j _ e
tick_rests s _ e = refl

pub ignores_tick : (s : ControllerState) (tick : Tick) → is_tick_for s tick ≡ false → IsIgnored s (Ticked tick)
unfolding next
ignores_tick s tick e = tick_rests s tick e

pub ignores_op : (s : ControllerState) (op : List ℕ) → IsIgnored s (Submit op)
unfolding next
ignores_op s op = refl

pub ignores_read : (s : ControllerState) (observer : ℕ) (key : List ℕ) → IsIgnored s (Read observer key)
unfolding next
ignores_read s observer key = refl

not_moved : (s : ControllerState) (j : ℕ) (x : Option ℕ) → x ≡ None → Rests s (move_by x s j)
not_moved s j None e = refl
not_moved s j (Some session) e = absurd cc

pub ends_above_seen : (s : ControllerState) (j : ℕ) → s.session < s.seen → 2 ^ 32 ≤ epoch_above (epoch s.seen) s.number
    → Rests s (move_to s j)
ends_above_seen s j seen far = not_moved s j _ (none_above s.number s.session s.seen seen far)

pub ends_after_last : (s : ControllerState) (j : ℕ) → s.seen ≤ s.session → count s.session ≡ last_number
    → 2 ^ 32 ≤ epoch s.session + EPOCH_STEP → Rests s (move_to s j)
ends_after_last s j seen last far = not_moved s j _ (none_after s.number s.session s.seen seen last far)
