-- No session and number is stamped twice.
use Rattle.std.proofs.Common.{◌≡◌, ◌≤◌, ◌+◌, ℕ, zero, suc, List, [], ◌∷◌, ◌++◌, refl, ap, sym, subst, ◌∙◌, Some, None, Bool, true, false}
use Rattle.std.proofs.Common.{cond, Result, Ok, arith}
use Rattle.std.specs.Prelude.{slice_get, nat_lt, ◌==◌}
use Rattle.std.proofs.lemmas.Option.{none-some, same_Some}
use Rattle.nop_types.specs.Given.{Given, Packet}
use Rattle.nop_types.specs.declared.request.Request.{Request}
use Rattle.nop_types.specs.declared.datagram.Stamped.{Stamped}
use Rattle.nop_types.specs.declared.datagram.Datagram.{Datagram}
use Rattle.nop_types.specs.declared.datagram.Datagram.TheVariants as datagrams
use Rattle.oum_codec.specs.declared.bad.Bad.{Bad}
use Rattle.oum_codec.specs.Reading.{reading}
use Rattle.sequencer.specs.declared.state.SequencerState.{SequencerState}
use Rattle.sequencer.specs.SequencerSteps.{can_stamp, stamped, install_if, ping_if, on_datagram, next}
use Rattle.sequencer.specs.Runs.{one_or_none, stamp_at, stamp_in, Call, Step, Stamp, stamp_by, after_call, stamps}

-- a packet that the state may still stamp: of a later session, or of this one with a number from next on
record IsAhead (s : SequencerState) (p : Stamped) : Type 0 where
  pub session : s.session ≤ p.session
  pub number : p.session ≡ s.session → s.next ≤ p.number

abbrev AreAhead : SequencerState → List Stamped → Type 0
AreAhead s ps = (j : ℕ) (p : Stamped) → slice_get ps j ≡ Some p → IsAhead s p

-- ---- what is stamped later is ahead

after_number : (s : SequencerState) (p : Stamped) → IsAhead (record s { next = s.next + 1 }) p → IsAhead s p
after_number s p h = record { session = h.session; number = λ e. omega (arith, h.number e) }

session_ahead : (b : Bool) (s : SequencerState) (session : ℕ) (p : Stamped) → nat_lt s.session session ≡ b
    → IsAhead (cond b (record s { session = session; next = 1 }) s) p → IsAhead s p
session_ahead true s session p test h = record { session = grind (arith, h.session, test); number = λ e. grind (arith, h.session, test, e) }
session_ahead false s session p test h = h

install_ahead : (b : Bool) (s : SequencerState) (k session : ℕ) (p : Stamped) → IsAhead (install_if b s k session).0 p → IsAhead s p
install_ahead true s k session p h = session_ahead (nat_lt s.session session) s session p refl h
install_ahead false s k session p h = h

ping_ahead : (b : Bool) (s : SequencerState) (k round : ℕ) (p : Stamped) → IsAhead (ping_if b s k round).0 p → IsAhead s p
ping_ahead true s k round p h = h
ping_ahead false s k round p h = h

-- ---- a request

packet_first : (b : Bool) (s : SequencerState) (r : Request) (ps : List Stamped) → AreAhead (cond b (record s { next = s.next + 1 }) s) ps
    → AreAhead s (one_or_none (cond b (Some (stamped s r)) None) ++ ps)
packet_first true s r ps rest zero p e = subst (IsAhead s) (same_Some _ p e) (record { session = omega arith; number = λ _. omega arith })
packet_first true s r ps rest (suc j) p e = after_number s p (rest j p e)
packet_first false s r ps rest j p e = rest j p e

rest_ahead : (s : SequencerState) (d : Result Datagram Bad) (ps : List Stamped) → AreAhead (on_datagram s d).0 ps
    → AreAhead s (stamp_at s d ++ ps)
rest_ahead s (Ok (datagrams.Request r)) ps rest j p e = packet_first (can_stamp s) s r ps rest j p e
rest_ahead s (Ok (datagrams.Install controller sequencer session)) ps rest j p e =
    install_ahead (sequencer == s.number) s controller session p (rest j p e)
rest_ahead s (Ok (datagrams.Ping controller sequencer round)) ps rest j p e = ping_ahead _ s controller round p (rest j p e)
rest_ahead s _ ps rest j p e = rest j p e

input_ahead : (s : SequencerState) (i : Given) (ps : List Stamped) → AreAhead (next s i).0 ps → AreAhead s (stamp_in s i ++ ps)
unfolding next
input_ahead s (Packet bytes) ps rest j p e = rest_ahead s (reading bytes) ps rest j p e
input_ahead s _ ps rest j p e = rest j p e

call_ahead : (s : SequencerState) (c : Call) (ps : List Stamped) → AreAhead (after_call s c) ps → AreAhead s (stamp_by s c ++ ps)
call_ahead s (Step input) ps rest = input_ahead s input ps rest
call_ahead s (Stamp request) ps rest = packet_first (can_stamp s) s request ps rest

stamps_ahead : (s : SequencerState) (calls : List Call) → AreAhead s (stamps s calls)
stamps_ahead s [] j p e = absurd (none-some p e)
stamps_ahead s (c ∷ cs) j p e = call_ahead s c (stamps (after_call s c) cs) (stamps_ahead (after_call s c) cs) j p e

-- ---- once

abbrev AreOnce : List Stamped → Type 0
AreOnce ps =
    (i j : ℕ) (p q : Stamped) → slice_get ps i ≡ Some p → slice_get ps j ≡ Some q → p.session ≡ q.session → p.number ≡ q.number → i ≡ j

-- a packet that was stamped is not ahead any more
passed : (s : SequencerState) (r : Request) (p q : Stamped) → stamped s r ≡ p → IsAhead (record s { next = s.next + 1 }) q
    → p.session ≡ q.session → p.number ≡ q.number → ⊥
passed s r p q is h same number =
    let session : q.session ≡ s.session = sym same ∙ sym (ap (λ (x : Stamped). x.session) is) in
    let low : s.next + 1 ≤ q.number = h.number session in
    let own : s.next ≡ q.number = ap (λ (x : Stamped). x.number) is ∙ number in
    omega (arith, low, own)

packet_once : (b : Bool) (s : SequencerState) (r : Request) (ps : List Stamped) → AreAhead (cond b (record s { next = s.next + 1 }) s) ps
    → AreOnce ps → AreOnce (one_or_none (cond b (Some (stamped s r)) None) ++ ps)
packet_once true s r ps ahead once zero zero p q e f session number = refl
packet_once true s r ps ahead once zero (suc j) p q e f session number =
    absurd (passed s r p q (same_Some _ p e) (ahead j q f) session number)
packet_once true s r ps ahead once (suc i) zero p q e f session number =
    absurd (passed s r q p (same_Some _ q f) (ahead i p e) (sym session) (sym number))
packet_once true s r ps ahead once (suc i) (suc j) p q e f session number = ap suc (once i j p q e f session number)
packet_once false s r ps ahead once i j p q e f session number = once i j p q e f session number

rest_once : (s : SequencerState) (d : Result Datagram Bad) (ps : List Stamped) → AreAhead (on_datagram s d).0 ps → AreOnce ps
    → AreOnce (stamp_at s d ++ ps)
rest_once s (Ok (datagrams.Request r)) ps ahead once = packet_once (can_stamp s) s r ps ahead once
rest_once s _ ps ahead once = once

input_once : (s : SequencerState) (i : Given) (ps : List Stamped) → AreAhead (next s i).0 ps → AreOnce ps → AreOnce (stamp_in s i ++ ps)
unfolding next
input_once s (Packet bytes) ps ahead once = rest_once s (reading bytes) ps ahead once
input_once s _ ps ahead once = once

call_once : (s : SequencerState) (c : Call) (ps : List Stamped) → AreAhead (after_call s c) ps → AreOnce ps → AreOnce (stamp_by s c ++ ps)
call_once s (Step input) ps ahead once = input_once s input ps ahead once
call_once s (Stamp request) ps ahead once = packet_once (can_stamp s) s request ps ahead once

pub stamps_once : (s : SequencerState) (calls : List Call) → AreOnce (stamps s calls)
stamps_once s [] i j p q e f session number = absurd (none-some p e)
stamps_once s (c ∷ cs) i j p q e f session number =
    call_once s c (stamps (after_call s c) cs) (stamps_ahead (after_call s c) cs) (stamps_once (after_call s c) cs) i j p q e f session
    number
