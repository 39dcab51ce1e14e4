-- Each row of a sequencer's step table is a list of moves.
use Rattle.std.proofs.Common.{◌≡◌, ℕ, ◌≤◌, ◌+◌, Bool, true, false, cond, Some, None, refl, ap, subst, inl, inr, arith, List, [], ◌∷◌}
use Rattle.std.specs.Prelude.{Result, Ok, ◌==◌, nat_lt}
use Rattle.std.proofs.lemmas.Bool.{and_parts, eqb-true, ltb-true, ltb-false}
use Rattle.nop_types.specs.Given.{Given, Packet}
use Rattle.nop_types.specs.Lists.{Has}
use Rattle.nop_types.specs.Meaning.{Meaning}
use Rattle.nop_types.specs.Ranges.{SessionFits, InstallFits, PingFits}
use Rattle.nop_types.specs.declared.limits.TheConstants.{NUMBER_END}
use Rattle.nop_types.specs.declared.output.Actor.TheVariants.{Controller}
use Rattle.nop_types.specs.declared.output.Dest.TheVariants.{Replicas, One}
use Rattle.nop_types.specs.declared.output.Out.{Out}
use Rattle.nop_types.specs.declared.output.Out.TheVariants.{Send}
use Rattle.nop_types.specs.declared.request.Request.{Request}
use Rattle.nop_types.specs.declared.datagram.Stamped.{Stamped}
use Rattle.nop_types.specs.declared.datagram.Datagram.{Datagram}
use Rattle.nop_types.specs.declared.datagram.Datagram.TheVariants as datagrams
use Rattle.lemmas.proofs.Members.{Has-first, Has-cases}
use Rattle.oum_codec.specs.declared.bad.Bad.{Bad}
use Rattle.oum_codec.specs.Reading.{reading}
use Rattle.oum_codec.specs.Spelling.{spelling}
use Rattle.sequencer.specs.declared.state.SequencerState.{SequencerState}
use Rattle.sequencer.specs.Runs.{one_or_none, stamp_at, stamp_in}
use Rattle.sequencer.specs.SequencerSteps.{can_stamp, stamped, stamped_by, send_packet, stamp, to_controller, installed_in, install_if, install}
use Rattle.sequencer.specs.SequencerSteps.{ping_if, ping, on_datagram, next}
use Rattle.protocol.specs.Conf.{Conf}
use Rattle.protocol.specs.Invariant.{Inv}
use Rattle.protocol.specs.Runs as moves
use Rattle.refinement.specs.Datagrams.{Arrived, MayCome, AllCarry}
use Rattle.refinement.specs.Lines.{lines_in}
use Rattle.refinement.specs.Sequencers.{with_sequencer, SequencerReaches, SessionsFit, SequencersReach}
use Rattle.refinement.proofs.Outputs.{none_carry, one_carries, only_new, says_none, no_moves}
use Rattle.refinement.proofs.Puts.{put-same}

module _ {S : Type 0} (m : Meaning S) (f : ℕ) (c : Conf) (j : ℕ) (inv : Inv m f c) (sessions : SessionsFit c) where
  abbrev s : SequencerState
  s = c.sequencers j

  number : s.number ≡ j
  number = (inv.sequencers j).number

  -- no move is made, and nothing is stamped
  rests : (outs : List Out) → lines_in outs ≡ [] → AllCarry c outs → SequencerReaches m f c j [] (s, outs)
  rests outs quiet carry = no_moves m f c (with_sequencer c j s []) outs same quiet carry
    where
      same : with_sequencer c j s [] ≡ c
      same = λ i. record c { sequencers = put-same c.sequencers j i }

  still : SequencerReaches m f c j [] (s, [])
  still = rests [] refl (none_carry c)

  -- ---- a request comes

  stamps : (r : Request) → Has c.requests r → can_stamp s ≡ true
      → SequencerReaches m f c j (stamped s r ∷ []) (record s { next = s.next + 1 }, send_packet (Some (stamped s r)))
  stamps r came can =
      let p : Stamped = stamped s r in
      let outs : List Out = send_packet (Some p) in
      let d = with_sequencer c j (record s { next = s.next + 1 }) (p ∷ []) in
      record {
        moves = moves.Stamp j r ∷ [];
        may = (
          record {
            sent = came;
            session = ltb-true 0 s.session (and_parts (nat_lt 0 s.session) (nat_lt s.next NUMBER_END) can).0;
          },
          tt,
        );
        ends = refl;
        sends = one_carries d Replicas (datagrams.Stamped p) tt (Has-first p p c.stamps refl);
        only = only_new c d outs (λ q h. inl h) (λ q h. elim (Has-cases q p c.stamps h) [
          | inl e ↦ inr (Replicas, Has-first _ _ [] (ap (λ (x : Stamped). Send Replicas (spelling (datagrams.Stamped x))) e))
          | inr old ↦ inl old
        ]) refl (λ x h. inl h);
        lines = says_none c.lines outs refl;
        first = refl;
      }

  stamp_by : (r : Request) → Has c.requests r → (b : Bool) → can_stamp s ≡ b
      → SequencerReaches m f c j (one_or_none (cond b (Some (stamped s r)) None))
      (cond b (record s { next = s.next + 1 }) s, send_packet (cond b (Some (stamped s r)) None))
  stamp_by r came true e = stamps r came e
  stamp_by r came false e = still

  stamp_reaches : (r : Request) → Has c.requests r → SequencerReaches m f c j (one_or_none (stamped_by s r)) (stamp s r)
  stamp_reaches r came = stamp_by r came (can_stamp s) refl

  -- ---- a session is installed

  -- the sequencer's own session was given out, or is the first
  pub session_fits : 1 ≤ s.session → SessionFits s.session
  session_fits low = elim ((inv.sequencers j).owns low) [
    | inl first ↦ (let one = first.1 in record { low = low; high = omega (arith, one) })
    | inr given ↦ sessions (record { sequencer = j; session = s.session }) given
  ]

  -- a later session begins, or its own one goes on
  session_by : (k session : ℕ) → Has c.installs (record { sequencer = s.number; session = session }) → InstallFits k s.number session
      → (b : Bool) → nat_lt s.session session ≡ b
      → SequencerReaches m f c j [] (installed_in (cond b (record s { session = session; next = 1 }) s) k)
  session_by k session sent fits true e =
      let outs : List Out = to_controller k (datagrams.Installed k s.number session) in
      let d = with_sequencer c j (record s { session = session; next = 1 }) [] in
      record {
        moves = moves.Install j session ∷ [];
        may = (
          record {
            sent = subst (λ (n : ℕ). Has c.installs (record { sequencer = n; session = session })) number sent;
            later = ltb-true s.session session e;
          },
          tt,
        );
        ends = refl;
        sends = one_carries d (One (Controller k)) (datagrams.Installed k s.number session) tt fits;
        only = only_new c d outs (λ r h. inl h) (λ p h. inl h) refl (λ x h. inl h);
        lines = says_none c.lines outs refl;
        first = refl;
      }
  session_by k session sent fits false e =
      let low = ltb-false s.session session e in
      rests (to_controller k (datagrams.Installed k s.number s.session)) refl
      (one_carries c (One (Controller k)) (datagrams.Installed k s.number s.session) tt (record {
        controller = fits.controller;
        sequencer = fits.sequencer;
        fits = session_fits (omega (arith, low, fits.fits.low));
      }))

  install_by : (k sequencer session : ℕ) → Arrived c (datagrams.Install k sequencer session) → (b : Bool) → (sequencer == s.number) ≡ b
      → SequencerReaches m f c j [] (install_if b s k session)
  install_by k sequencer session came true e =
      let same = eqb-true sequencer s.number e in
      session_by k session (subst (λ (n : ℕ). Has c.installs (record { sequencer = n; session = session })) same came.sent.given)
      (subst (λ (n : ℕ). InstallFits k n session) same came.fits) (nat_lt s.session session) refl
  install_by k sequencer session came false e = still

  install_reaches : (k sequencer session : ℕ) → Arrived c (datagrams.Install k sequencer session)
      → SequencerReaches m f c j [] (install s k sequencer session)
  install_reaches k sequencer session came = install_by k sequencer session came (sequencer == s.number) refl

  -- ---- a controller asks whether it is there

  ping_by : (k sequencer round : ℕ) → PingFits k sequencer round → (b : Bool) → (sequencer == s.number) ≡ b
      → SequencerReaches m f c j [] (ping_if b s k round)
  ping_by k sequencer round fits true e =
      rests (to_controller k (datagrams.Pong k s.number round)) refl
      (one_carries c (One (Controller k)) (datagrams.Pong k s.number round) tt
      (subst (λ (n : ℕ). PingFits k n round) (eqb-true sequencer s.number e) fits))
  ping_by k sequencer round fits false e = still

  ping_reaches : (k sequencer round : ℕ) → PingFits k sequencer round → SequencerReaches m f c j [] (ping s k sequencer round)
  ping_reaches k sequencer round fits = ping_by k sequencer round fits (sequencer == s.number) refl

  -- ---- all rows

  datagram_reaches : (x : Result Datagram Bad) → ((d : Datagram) → x ≡ Ok d → Arrived c d)
      → SequencerReaches m f c j (stamp_at s x) (on_datagram s x)
  datagram_reaches (Ok (datagrams.Request r)) came = stamp_reaches r (came (datagrams.Request r) refl).sent
  datagram_reaches (Ok (datagrams.Install controller sequencer session)) came =
      install_reaches controller sequencer session (came (datagrams.Install controller sequencer session) refl)
  datagram_reaches (Ok (datagrams.Ping controller sequencer round)) came =
      ping_reaches controller sequencer round (came (datagrams.Ping controller sequencer round) refl).fits
  datagram_reaches _ came = still

  input_reaches : (i : Given) → MayCome c i → SequencerReaches m f c j (stamp_in s i) (next s i)
  unfolding next
  input_reaches (Packet bytes) came = datagram_reaches (reading bytes) came
  input_reaches _ came = still

pub sequencers_reach : {S : Type 0} (m : Meaning S) → SequencersReach m
sequencers_reach m f c j i inv sessions came = input_reaches m f c j inv sessions i came
