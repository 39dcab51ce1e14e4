-- A controller stays in its ranges, and so do the sessions that it gives out.
use Rattle.std.proofs.Common.{◌≡◌, ℕ, ◌+◌, ◌^◌, ◌<◌, Bool, true, false, refl, sym, subst, arith, inl, inr, Option, Some, None, [], ◌∷◌}
use Rattle.std.specs.Prelude.{◌==◌, ◌&&◌, Result, Ok, cond, nat_lt, nat_le, max}
use Rattle.std.proofs.lemmas.Bool.{ltb-true, leb-false}
use Rattle.std.proofs.lemmas.Nat.{mod_below}
use Rattle.nop_types.specs.Given.{Given, Packet, Ticked}
use Rattle.nop_types.specs.Lists.{Has}
use Rattle.nop_types.specs.Ranges.{InstallFits, DatagramFits}
use Rattle.nop_types.specs.Sessions.{home}
use Rattle.nop_types.specs.declared.input.Tick.{Tick}
use Rattle.nop_types.specs.declared.input.Tick.TheVariants as ticks
use Rattle.nop_types.specs.declared.datagram.Datagram.{Datagram}
use Rattle.nop_types.specs.declared.datagram.Datagram.TheVariants as datagrams
use Rattle.lemmas.proofs.Members.{Has-append_cases, Has-one, Has-none}
use Rattle.oum_codec.specs.declared.bad.Bad.{Bad}
use Rattle.oum_codec.specs.Reading.{reading}
use Rattle.session_control.specs.declared.state.ControllerState.{ControllerState}
use Rattle.session_control.specs.declared.state.TheConstants.{MISSED_END}
use Rattle.session_control.specs.ControllerSteps.{IsWithin, last_number, next_session, move_by, move_to, order_if, ask_if, following}
use Rattle.session_control.specs.ControllerSteps.{miss_if, probe_if, heard_if, resend_if, confirmed_if, seen_if, installed_if, on_tick}
use Rattle.session_control.specs.ControllerSteps.{on_datagram, next}
use Rattle.session_control.proofs.Epochs.{goes_home, rises, fits}
use Rattle.protocol.specs.Conf.{Conf, Install}
use Rattle.refinement.specs.Controllers.{given_out}
use Rattle.refinement.specs.Datagrams.{MayCome}
use Rattle.refinement.specs.Ranges.{ControllersStayInRanges}
use Rattle.refinement.proofs.Controllers.{few_sequencers}

-- what may change besides moves
kept_within : (s : ControllerState) (seen missed round : ℕ) (confirmed heard : Bool) → IsWithin s → seen < 2 ^ 64 → missed < MISSED_END
    → IsWithin (record s { seen = seen; confirmed = confirmed; round = round; heard = heard; missed = missed })
kept_within s seen missed round confirmed heard w low few =
    record { config = w.config; number = w.number; session = w.session; own = w.own; seen = low; current = w.current; missed = few }

move_within : (s : ControllerState) (j : ℕ) (x : Option ℕ) → IsWithin s → j < s.config.sequencers
    → next_session s.number s.session s.seen ≡ x → IsWithin (move_by x s j).0
move_within s j (Some session) w less e =
    let up = rises s.number s.session s.seen session e in
    record {
      config = w.config;
      number = w.number;
      session = record { low = omega (arith, up.0); high = fits s.number s.session s.seen session w.session.high e };
      own = goes_home s.number s.session s.seen session w.number w.own e;
      seen = w.seen;
      current = less;
      missed = omega arith;
    }
move_within s j None w less e = w

moves_within : (s : ControllerState) (j : ℕ) → IsWithin s → j < s.config.sequencers → IsWithin (move_to s j).0
moves_within s j w less = move_within s j (next_session s.number s.session s.seen) w less refl

order_within : (s : ControllerState) (j : ℕ) (b : Bool) → IsWithin s → nat_lt j s.config.sequencers ≡ b → IsWithin (order_if b s j).0
order_within s j true w e = moves_within s j w (ltb-true j s.config.sequencers e)
order_within s j false w e = w

ask_within : (s : ControllerState) (b : Bool) → IsWithin s → IsWithin (ask_if b s).0
ask_within s true w = kept_within s s.seen s.missed (s.round + 1) s.confirmed false w w.seen w.missed
ask_within s false w = w

miss_within : (s : ControllerState) (b : Bool) → IsWithin s → nat_le MISSED_END (s.missed + 1) ≡ b → IsWithin (miss_if b s).0
miss_within s true w e =
    let current = w.current in
    moves_within s (following s) w (mod_below (s.current + 1) s.config.sequencers (omega (arith, current)))
miss_within s false w e = let t : ControllerState = record s { missed = s.missed + 1 } in
    ask_within t (nat_lt s.round last_number)
    (kept_within s s.seen (s.missed + 1) s.round s.confirmed s.heard w w.seen (leb-false MISSED_END (s.missed + 1) e))

probe_within : (s : ControllerState) (b : Bool) → IsWithin s → IsWithin (probe_if b s).0
probe_within s true w = ask_within s (nat_lt s.round last_number) w
probe_within s false w = miss_within s (nat_le MISSED_END (s.missed + 1)) w refl

heard_within : (s : ControllerState) (b : Bool) → IsWithin s → IsWithin (heard_if b s)
heard_within s true w = kept_within s s.seen 0 s.round s.confirmed true w w.seen (omega arith)
heard_within s false w = w

resend_within : (s : ControllerState) (b : Bool) → IsWithin s → IsWithin (resend_if b s).0
resend_within s true w = w
resend_within s false w = w

-- what was seen stays below the end of sessions
seen_within : (s : ControllerState) (b : Bool) (session : ℕ) → IsWithin s → session < 2 ^ 64 → IsWithin (seen_if b s session)
seen_within s true session w less =
    let seen = w.seen in kept_within s (max s.seen session) s.missed s.round s.confirmed s.heard w (omega (arith, seen, less)) w.missed
seen_within s false session w less = w

confirmed_within : (s : ControllerState) (b : Bool) → IsWithin s → IsWithin (confirmed_if b s)
confirmed_within s true w = kept_within s s.seen s.missed s.round true s.heard w w.seen w.missed
confirmed_within s false w = w

installed_within : (s : ControllerState) (b : Bool) (sequencer session : ℕ) → IsWithin s → session < 2 ^ 64
    → IsWithin (installed_if b s sequencer session)
installed_within s true sequencer session w less =
    confirmed_within (seen_if (nat_lt s.session session) s session) ((sequencer == s.current) && (session == s.session))
    (seen_within s (nat_lt s.session session) session w less)
installed_within s false sequencer session w less = w

tick_within : (s : ControllerState) (tick : Tick) → IsWithin s → IsWithin (on_tick s tick).0
tick_within s ticks.Probe w = probe_within s s.heard w
tick_within s ticks.Resend w = resend_within s s.confirmed w
tick_within s (ticks.Install j) w = order_within s j (nat_lt j s.config.sequencers) w refl
tick_within s _ w = w

datagram_within : (s : ControllerState) (x : Result Datagram Bad) → ((d : Datagram) → x ≡ Ok d → DatagramFits d) → IsWithin s
    → IsWithin (on_datagram s x).0
datagram_within s (Ok (datagrams.Pong controller sequencer round)) fits w =
    heard_within s ((controller == s.number) && ((sequencer == s.current) && (round == s.round))) w
datagram_within s (Ok (datagrams.Installed controller sequencer session)) fits w =
    installed_within s (controller == s.number) sequencer session w (fits (datagrams.Installed controller sequencer session) refl).fits.high
datagram_within s _ fits w = w

next_within : (c : Conf) (s : ControllerState) (i : Given) → MayCome c i → IsWithin s → IsWithin (next s i).0
unfolding next
next_within c s (Packet bytes) came w = datagram_within s (reading bytes) (λ d e. (came d e).fits) w
next_within c s (Ticked tick) came w = tick_within s tick w
next_within c s _ came w = w

-- a session that is given out is that of a controller in its ranges
install_fits : (t : ControllerState) → IsWithin t → InstallFits (home t.session) t.current t.session
install_fits t w =
    record {
      controller = omega (arith, w.own, w.number);
      sequencer = few_sequencers t.config t.current w.config w.current;
      fits = w.session;
    }

given_fits : (t : ControllerState) (b : Bool) → IsWithin t → (x : Install)
    → Has (cond b [] (record { sequencer = t.current; session = t.session } ∷ [])) x → InstallFits (home x.session) x.sequencer x.session
given_fits t true w x h = absurd (Has-none x h)
given_fits t false w x h =
    subst (λ (y : Install). InstallFits (home y.session) y.sequencer y.session) (sym (Has-one x _ h)) (install_fits t w)

pub controllers_stay_in_ranges : ControllersStayInRanges
controllers_stay_in_ranges c k s i all w came =
    let t : ControllerState = (next s i).0 in
    let within : IsWithin t = next_within c s i came w in (
      record {
        requests = all.requests;
        stamps = all.stamps;
        replies = all.replies;
        installs = λ x h. elim (Has-append_cases (given_out s t) c.installs x h) [
          | inl new ↦ given_fits t (t.session == s.session) within x new
          | inr old ↦ all.installs x old
        ];
      },
      within,
    )
