-- Each row of a controller's step table is a list of moves.
use Rattle.std.proofs.Common.{◌≡◌, ℕ, ◌≤◌, ◌<◌, ◌+◌, Bool, true, false, refl, sym, ap, subst, ◌∙◌, inl, inr, arith, Option, Some, None}
use Rattle.std.specs.Prelude.{List, [], ◌∷◌, ◌++◌, IsTrue, Result, Ok, ◌==◌, ◌&&◌, nat_lt, nat_le, max}
use Rattle.std.proofs.lemmas.Bool.{eq-eqb, ne_eqb, cond-true, cond-false}
use Rattle.std.proofs.lemmas.Bool.Decides.{nat_tests}
use Rattle.nop_types.specs.Configuration.{Configuration, is_configuration}
use Rattle.nop_types.specs.Given.{Given, Packet, Ticked}
use Rattle.nop_types.specs.Lists.{Has}
use Rattle.nop_types.specs.Meaning.{Meaning}
use Rattle.nop_types.specs.Ranges.{PingFits}
use Rattle.nop_types.specs.Sessions.{home}
use Rattle.nop_types.specs.declared.input.Tick.{Tick}
use Rattle.nop_types.specs.declared.input.Tick.TheVariants as ticks
use Rattle.nop_types.specs.declared.output.Actor.TheVariants.{Sequencer}
use Rattle.nop_types.specs.declared.output.Dest.TheVariants.{One}
use Rattle.nop_types.specs.declared.output.Out.{Out}
use Rattle.nop_types.specs.declared.output.Out.TheVariants.{Send}
use Rattle.nop_types.specs.declared.datagram.Datagram.{Datagram}
use Rattle.nop_types.specs.declared.datagram.Datagram.TheVariants as datagrams
use Rattle.lemmas.specs.Functions.{put}
use Rattle.lemmas.proofs.Members.{Has-first, Has-cases}
use Rattle.oum_codec.specs.declared.bad.Bad.{Bad}
use Rattle.oum_codec.specs.Reading.{reading}
use Rattle.oum_codec.specs.Spelling.{spelling}
use Rattle.session_control.specs.declared.state.ControllerState.{ControllerState}
use Rattle.session_control.specs.declared.state.TheConstants.{MISSED_END}
use Rattle.session_control.specs.ControllerSteps.{IsWithin, last_number, next_session, install_of, moved, move_by, move_to, order_if}
use Rattle.session_control.specs.ControllerSteps.{order_move, asked, ask_if, ask, following, miss_if, probe_if, probe, heard_if, pong}
use Rattle.session_control.specs.ControllerSteps.{resend_if, resend_install, confirmed_if, seen_if, installed_if, installed, on_tick}
use Rattle.session_control.specs.ControllerSteps.{on_datagram, next}
use Rattle.session_control.proofs.Epochs.{goes_home, rises}
use Rattle.protocol.specs.Conf.{Conf, Control, Install}
use Rattle.protocol.specs.Invariant.{Inv}
use Rattle.protocol.specs.Runs as moves
use Rattle.refinement.specs.Controllers.{control_of, given_out, with_controller, ControllerReaches, ControllersReach}
use Rattle.refinement.specs.Datagrams.{AllCarry}
use Rattle.refinement.specs.Lines.{lines_in}
use Rattle.refinement.specs.Steps.{LeadsTo}
use Rattle.refinement.proofs.Outputs.{none_carry, one_carries, only_new, says_none, no_moves}
use Rattle.refinement.proofs.Puts.{put-same}

pub few_sequencers : (config : Configuration) (n : ℕ) → IsTrue (is_configuration config) → n < config.sequencers → n ≤ 3
few_sequencers config n is less = grind (arith, is, less)

-- where the session stays, none is given out
none_given : (s t : ControllerState) → t.session ≡ s.session → given_out s t ≡ []
none_given s t e = cond-true (t.session == s.session) [] _ (eq-eqb t.session s.session e)

-- and where it is another, it is
one_given : (s t : ControllerState) → (t.session ≡ s.session → ⊥)
    → given_out s t ≡ record { sequencer = t.current; session = t.session } ∷ []
one_given s t d = cond-false (t.session == s.session) [] _ (ne_eqb t.session s.session d)

module _ {S : Type 0} (m : Meaning S) (f : ℕ) (c : Conf) (s : ControllerState) (inv : Inv m f c)
    (shows : c.controllers s.number ≡ control_of s) (within : IsWithin s) where
  abbrev k : ℕ
  k = s.number

  -- no move is made: session, current sequencer and confirmation stay
  rests : (t : ControllerState) (outs : List Out) → control_of t ≡ control_of s → lines_in outs ≡ [] → AllCarry c outs
      → ControllerReaches m f c k s (t, outs)
  rests t outs e quiet carry = no_moves m f c (with_controller c k t (given_out s t)) outs same quiet carry
    where
      none : given_out s t ++ c.installs ≡ c.installs
      none = ap (λ (x : List Install). x ++ c.installs) (none_given s t (ap (λ (x : Control). x.session) e))

      stays : put c.controllers k (control_of t) ≡ c.controllers
      stays = ap (λ (x : Control). put c.controllers k x) (e ∙ sym shows) ∙ put-same c.controllers k

      same : with_controller c k t (given_out s t) ≡ c
      same = λ i. record c { controllers = stays i; installs = none i }

  silent : (t : ControllerState) → control_of t ≡ control_of s → ControllerReaches m f c k s (t, [])
  silent t e = rests t [] e refl (none_carry c)

  still : ControllerReaches m f c k s (s, [])
  still = silent s refl

  -- ---- a move

  moves_by : (j : ℕ) (x : Option ℕ) → next_session s.number s.session s.seen ≡ x → ControllerReaches m f c k s (move_by x s j)
  moves_by j (Some session) e =
      let t = moved s j session in
      let new : Install = record { sequencer = j; session = session } in
      let d = with_controller c k t (new ∷ []) in
      subst (λ (xs : List Install). LeadsTo m f c (with_controller c k t xs) (install_of t)) (sym (one_given s t other)) (record {
        moves = moves.MoveTo k j session ∷ [];
        may = (record { own = own; later = subst (λ (x : Control). x.session < session) (sym shows) later }, tt);
        ends = refl;
        sends = one_carries d (One (Sequencer j)) (datagrams.Install k j session) tt
            (record { given = Has-first new new c.installs refl; own = own });
        only = only_new c d (install_of t) (λ r h. inl h) (λ p h. inl h) refl (λ x h. elim (Has-cases x new c.installs h) [
          | inl same ↦ inr (One (Sequencer j), Has-first _ _ [] (ap install_out same ∙ ap out_of own))
          | inr old ↦ inl old
        ]);
        lines = says_none c.lines (install_of t) refl;
        first = refl;
      })
    where
      own : home session ≡ k
      own = goes_home s.number s.session s.seen session within.number within.own e

      later : s.session < session
      later = (rises s.number s.session s.seen session e).0

      other : session ≡ s.session → ⊥
      other same = omega (arith, later, same)

      install_out : Install → Out
      install_out x = Send (One (Sequencer j)) (spelling (datagrams.Install (home x.session) x.sequencer x.session))

      out_of : ℕ → Out
      out_of n = Send (One (Sequencer j)) (spelling (datagrams.Install n j session))
  moves_by j None e = still

  moves_to : (j : ℕ) → ControllerReaches m f c k s (move_to s j)
  moves_to j = moves_by j (next_session s.number s.session s.seen) refl

  order_by : (j : ℕ) (b : Bool) → ControllerReaches m f c k s (order_if b s j)
  order_by j true = moves_to j
  order_by j false = still

  order_move_reaches : (j : ℕ) → ControllerReaches m f c k s (order_move s j)
  order_move_reaches j = order_by j (nat_lt j s.config.sequencers)

  -- ---- a probe

  ping_fits : (round : ℕ) → nat_lt round last_number ≡ true → PingFits s.number s.current (round + 1)
  ping_fits round e = record {
    controller = omega (arith, within.number);
    sequencer = few_sequencers s.config s.current within.config within.current;
    fits = record { low = omega arith; high = grind (arith, nat_tests, e) };
  }

  ask_by : (t : ControllerState) → t.number ≡ s.number → control_of t ≡ control_of s → (b : Bool) → nat_lt t.round last_number ≡ b
      → ControllerReaches m f c k s (ask_if b t)
  ask_by t number e true less =
      let current : t.current ≡ s.current = ap (λ (x : Control). x.current) e in
      rests (asked t) (ask_if true t).1 e refl
      (one_carries c (One (Sequencer t.current)) (datagrams.Ping t.number t.current (t.round + 1)) tt
      (subst (λ (n : ℕ). PingFits n t.current (t.round + 1)) (sym number)
      (subst (λ (n : ℕ). PingFits s.number n (t.round + 1)) (sym current) (ping_fits t.round less))))
  ask_by t number e false less = silent t e

  asks : (t : ControllerState) → t.number ≡ s.number → control_of t ≡ control_of s → ControllerReaches m f c k s (ask t)
  asks t number e = ask_by t number e (nat_lt t.round last_number) refl

  miss_by : (b : Bool) → ControllerReaches m f c k s (miss_if b s)
  miss_by true = moves_to (following s)
  miss_by false = asks (record s { missed = s.missed + 1 }) refl refl

  probe_by : (b : Bool) → ControllerReaches m f c k s (probe_if b s)
  probe_by true = asks s refl refl
  probe_by false = miss_by (nat_le MISSED_END (s.missed + 1))

  probe_reaches : ControllerReaches m f c k s (probe s)
  probe_reaches = probe_by s.heard

  pong_by : (b : Bool) → ControllerReaches m f c k s (heard_if b s, [])
  pong_by true = silent (record s { heard = true; missed = 0 }) refl
  pong_by false = still

  pong_reaches : (controller sequencer round : ℕ) → ControllerReaches m f c k s (pong s controller sequencer round)
  pong_reaches controller sequencer round = pong_by ((controller == s.number) && ((sequencer == s.current) && (round == s.round)))

  -- ---- a session is confirmed

  resend_by : (b : Bool) → s.confirmed ≡ b → ControllerReaches m f c k s (resend_if b s)
  resend_by true e = still
  resend_by false e =
      rests s (install_of s) refl refl
      (one_carries c (One (Sequencer s.current)) (datagrams.Install s.number s.current s.session) tt (record {
        given = subst (λ (x : Control). Has c.installs (record { sequencer = x.current; session = x.session })) shows
            ((inv.controllers k).given (ap (λ (x : Control). x.confirmed) shows ∙ e));
        own = within.own;
      }))

  resend_install_reaches : ControllerReaches m f c k s (resend_install s)
  resend_install_reaches = resend_by s.confirmed refl

  confirms : (seen : ℕ) → ControllerReaches m f c k s (record s { confirmed = true; seen = seen }, [])
  confirms seen =
      let t : ControllerState = record s { confirmed = true; seen = seen } in
      let d = with_controller c k t [] in
      subst (λ (xs : List Install). LeadsTo m f c (with_controller c k t xs) []) (sym (none_given s t refl)) (record {
        moves = moves.Installed k ∷ [];
        may = (tt, tt);
        ends = ap (λ (x : Control). record c { controllers = put c.controllers k (record x { confirmed = true }) }) shows;
        sends = none_carry d;
        only = only_new c d [] (λ r h. inl h) (λ p h. inl h) refl (λ x h. inl h);
        lines = says_none c.lines [] refl;
        first = tt;
      })

  confirmed_by : (b d : Bool) (session : ℕ) → ControllerReaches m f c k s (confirmed_if b (seen_if d s session), [])
  confirmed_by true true session = confirms (max s.seen session)
  confirmed_by true false session = confirms s.seen
  confirmed_by false true session = silent (seen_if true s session) refl
  confirmed_by false false session = still

  installed_by : (b : Bool) (sequencer session : ℕ) → ControllerReaches m f c k s (installed_if b s sequencer session, [])
  installed_by true sequencer session =
      confirmed_by ((sequencer == s.current) && (session == s.session)) (nat_lt s.session session) session
  installed_by false sequencer session = still

  installed_reaches : (controller sequencer session : ℕ) → ControllerReaches m f c k s (installed s controller sequencer session)
  installed_reaches controller sequencer session = installed_by (controller == s.number) sequencer session

  -- ---- all rows

  tick_reaches : (tick : Tick) → ControllerReaches m f c k s (on_tick s tick)
  tick_reaches ticks.Probe = probe_reaches
  tick_reaches ticks.Resend = resend_install_reaches
  tick_reaches (ticks.Install j) = order_move_reaches j
  tick_reaches _ = still

  datagram_reaches : (x : Result Datagram Bad) → ControllerReaches m f c k s (on_datagram s x)
  datagram_reaches (Ok (datagrams.Pong controller sequencer round)) = pong_reaches controller sequencer round
  datagram_reaches (Ok (datagrams.Installed controller sequencer session)) = installed_reaches controller sequencer session
  datagram_reaches _ = still

  input_reaches : (i : Given) → ControllerReaches m f c k s (next s i)
  unfolding next
  input_reaches (Packet bytes) = datagram_reaches (reading bytes)
  input_reaches (Ticked tick) = tick_reaches tick
  input_reaches _ = still

pub controllers_reach : {S : Type 0} (m : Meaning S) → ControllersReach m
controllers_reach m f c s i inv shows within came = input_reaches m f c s inv shows within i
