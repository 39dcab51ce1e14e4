-- Each Install that is sent is of the last move.
use Rattle.std.proofs.Common.{◌≡◌, ◌≤◌, ◌<◌, ◌+◌, ℕ, zero, suc, List, [], ◌∷◌, ◌++◌, refl, ap, sym, subst, ◌∙◌, Option, Some, None}
use Rattle.std.proofs.Common.{Bool, true, false, Result, Ok, IsTrue, arith}
use Rattle.std.specs.Prelude.{◌==◌, nat_lt, nat_le}
use Rattle.std.proofs.lemmas.Option.{none-some}
use Rattle.std.proofs.lemmas.Grind.{common_steps}
use Rattle.nop_types.specs.Given.{Given, Packet, Ticked}
use Rattle.nop_types.specs.Lists.{Has}
use Rattle.nop_types.specs.Configuration.{Configuration, is_configuration}
use Rattle.nop_types.specs.Ranges.{DatagramFits, SessionFits}
use Rattle.nop_types.specs.declared.limits.TheConstants.{MAX_CONTROLLERS}
use Rattle.nop_types.specs.declared.input.Tick.{Tick}
use Rattle.nop_types.specs.declared.input.Tick.TheVariants as ticks
use Rattle.nop_types.specs.declared.output.Out.{Out}
use Rattle.nop_types.specs.declared.output.Out.TheVariants.{Send}
use Rattle.nop_types.specs.declared.output.Dest.{Dest}
use Rattle.nop_types.specs.declared.output.Dest.TheVariants.{One}
use Rattle.nop_types.specs.declared.output.Actor.TheVariants.{Sequencer}
use Rattle.nop_types.specs.declared.datagram.Datagram.{Datagram}
use Rattle.nop_types.specs.declared.datagram.Datagram.TheVariants as datagrams
use Rattle.oum_codec.specs.declared.bad.Bad.{Bad}
use Rattle.oum_codec.specs.Reading.{reading}
use Rattle.oum_codec.specs.Spelling.{spelling}
use Rattle.oum_codec.proofs.Datagrams.{reads_again}
use Rattle.session_control.specs.declared.state.ControllerState.{ControllerState}
use Rattle.session_control.specs.declared.state.TheConstants.{MISSED_END}
use Rattle.session_control.specs.ControllerSteps.{opening, next_session, install_of, moved, last_number, move_by, move_to, order_if}
use Rattle.session_control.specs.ControllerSteps.{asked, ask_if, following, miss_if, probe_if, heard_if, resend_if, confirmed_if, seen_if}
use Rattle.session_control.specs.ControllerSteps.{installed_if, on_tick, on_datagram, next}
use Rattle.session_control.specs.Moves.{Move, after, move_of, last_move}
use Rattle.session_control.proofs.Epochs.{opens_fits, rises, fits}
use Rattle.session_control.proofs.Rising.{goes_on, last_of_state, one_more}

-- it has this controller's number, and goes to the sequencer of this move, with its session
abbrev IsOf : (number : ℕ) → Move → Dest → (k j x : ℕ) → Type 0
IsOf n m dest k j x = (k ≡ n) × (dest ≡ One (Sequencer j)) × (record { sequencer = j; session = x } ≡ m)

-- so is each Install among the outputs
abbrev AreOf : (number : ℕ) → Move → List Out → Type 0
AreOf n m outs = (dest : Dest) (bytes : List ℕ) (k j x : ℕ) → Has outs (Send dest bytes) → reading bytes ≡ Ok (datagrams.Install k j x)
    → IsOf n m dest k j x

-- the state is within its limits, whatever was seen
record Stands (s : ControllerState) : Type 0 where
  pub config : IsTrue (is_configuration s.config)
  pub number : s.number < MAX_CONTROLLERS
  pub session : SessionFits s.session
  pub current : s.current < s.config.sequencers
  pub missed : s.missed < MISSED_END

-- a row's state stands, and its Installs are of that state
record IsRow (r : ControllerState × List Out) : Type 0 where
  pub within : Stands r.0
  pub installs : AreOf r.0.number (move_of r.0) r.1

silent : (n : ℕ) (m : Move) → AreOf n m []
silent n m dest bytes k j x has read = absurd (none-some (Send dest bytes) has.1)

quiet : (s : ControllerState) → Stands s → IsRow (s, [])
quiet s w = record { within = w; installs = silent s.number (move_of s) }

current_small : (s : ControllerState) → Stands s → s.current ≤ 3
current_small s w = grind (arith, w.config, w.current)

number_small : (s : ControllerState) → Stands s → s.number ≤ 3
number_small s w = omega (arith, w.number)

-- ---- what one send brings

sent_dest : (d e : Dest) (a b : List ℕ) → Some (Send d a) ≡ Some (Send e b) → d ≡ e
sent_dest d e a b is = cc

sent_bytes : (d e : Dest) (a b : List ℕ) → Some (Send d a) ≡ Some (Send e b) → a ≡ b
sent_bytes d e a b is = cc

ok_same : (a b : Datagram) → ◌≡◌ {A = Result Datagram Bad} (Ok a) (Ok b) → a ≡ b
ok_same a b is = cc

read_sent : (d : Datagram) → DatagramFits d → (bytes : List ℕ) → spelling d ≡ bytes → (e : Datagram) → reading bytes ≡ Ok e → d ≡ e
read_sent d fits bytes spelled e read =
    let again : reading bytes ≡ Ok d = subst (λ b. reading b ≡ Ok d) spelled (reads_again d fits) in
    ok_same d e (sym again ∙ read)

install_is : (a b n k j x : ℕ) → datagrams.Install a b n ≡ datagrams.Install k j x → (a ≡ k) × (b ≡ j) × (n ≡ x)
install_is a b n k j x e = (cc, cc, cc)

ping_is_none : (a b n k j x : ℕ) → datagrams.Ping a b n ≡ datagrams.Install k j x → ⊥
ping_is_none a b n k j x e = cc

install_parts : (s : ControllerState) (dest : Dest) (k j x : ℕ) → One (Sequencer s.current) ≡ dest
    → (s.number ≡ k) × (s.current ≡ j) × (s.session ≡ x) → IsOf s.number (move_of s) dest k j x
install_parts s dest k j x to same =
    let a : s.current ≡ j = same.1 in
    let b : s.session ≡ x = same.2 in (sym same.0, sym to ∙ ap (λ n. One (Sequencer n)) a, cc)

install_sent : (s : ControllerState) → Stands s → AreOf s.number (move_of s) (install_of s)
install_sent s w dest bytes k j x (zero, e) read =
    install_parts s dest k j x (sent_dest _ dest _ bytes e)
    (install_is _ _ _ k j x (read_sent (datagrams.Install s.number s.current s.session)
    (record { controller = number_small s w; sequencer = current_small s w; fits = w.session }) bytes (sent_bytes _ dest _ bytes e)
    (datagrams.Install k j x) read))
install_sent s w dest bytes k j x (suc i, e) read = absurd (none-some (Send dest bytes) e)

ping_sent : (s : ControllerState) → Stands s → nat_lt s.round last_number ≡ true → (n : ℕ) (m : Move)
    → AreOf n m (Send (One (Sequencer s.current)) (spelling (datagrams.Ping s.number s.current (s.round + 1))) ∷ [])
ping_sent s w test n m dest bytes k j x (zero, e) read =
    absurd (ping_is_none _ _ _ k j x (read_sent (datagrams.Ping s.number s.current (s.round + 1))
    (record {
      controller = number_small s w;
      sequencer = current_small s w;
      fits = record { low = omega arith; high = grind (arith, test) };
    }) bytes (sent_bytes _ dest _ bytes e) (datagrams.Install k j x) read))
ping_sent s w test n m dest bytes k j x (suc i, e) read = absurd (none-some (Send dest bytes) e)

-- ---- each row

moved_within : (s : ControllerState) (j session : ℕ) → Stands s → next_session s.number s.session s.seen ≡ Some session
    → j < s.config.sequencers → Stands (moved s j session)
moved_within s j session w e there =
    let up = rises s.number s.session s.seen session e in
    record {
      config = w.config;
      number = w.number;
      session = record { low = omega (arith, up.0); high = fits s.number s.session s.seen session w.session.high e };
      current = there;
      missed = omega arith;
    }

move_row : (x : Option ℕ) (s : ControllerState) (j : ℕ) → next_session s.number s.session s.seen ≡ x → Stands s
    → j < s.config.sequencers → IsRow (move_by x s j)
move_row (Some session) s j e w there =
    let v : Stands (moved s j session) = moved_within s j session w e there in
    record { within = v; installs = install_sent (moved s j session) v }
move_row None s j e w there = quiet s w

moves_row : (s : ControllerState) (j : ℕ) → Stands s → j < s.config.sequencers → IsRow (move_to s j)
moves_row s j w there = move_row (next_session s.number s.session s.seen) s j refl w there

order_row : (b : Bool) (s : ControllerState) (j : ℕ) → nat_lt j s.config.sequencers ≡ b → Stands s → IsRow (order_if b s j)
order_row true s j test w = moves_row s j w (grind (arith, test))
order_row false s j test w = quiet s w

ask_row : (b : Bool) (s : ControllerState) → nat_lt s.round last_number ≡ b → Stands s → IsRow (ask_if b s)
ask_row true s test w =
    record {
      within = record { config = w.config; number = w.number; session = w.session; current = w.current; missed = w.missed };
      installs = ping_sent s w test s.number (move_of (asked s));
    }
ask_row false s test w = quiet s w

following_there : (s : ControllerState) → Stands s → following s < s.config.sequencers
following_there s w = grind (arith, common_steps, w.current)

miss_row : (b : Bool) (s : ControllerState) → nat_le MISSED_END (s.missed + 1) ≡ b → Stands s → IsRow (miss_if b s)
miss_row true s test w = moves_row s (following s) w (following_there s w)
miss_row false s test w =
    let v : Stands (record s { missed = s.missed + 1 }) =
    record { config = w.config; number = w.number; session = w.session; current = w.current; missed = grind (arith, test) } in
    ask_row (nat_lt s.round last_number) (record s { missed = s.missed + 1 }) refl v

probe_row : (b : Bool) (s : ControllerState) → Stands s → IsRow (probe_if b s)
probe_row true s w = ask_row (nat_lt s.round last_number) s refl w
probe_row false s w = miss_row (nat_le MISSED_END (s.missed + 1)) s refl w

resend_row : (b : Bool) (s : ControllerState) → Stands s → IsRow (resend_if b s)
resend_row true s w = quiet s w
resend_row false s w = record { within = w; installs = install_sent s w }

heard_row : (b : Bool) (s : ControllerState) → Stands s → IsRow (heard_if b s, [])
heard_row true s w =
    quiet (record s { heard = true; missed = 0 })
    (record { config = w.config; number = w.number; session = w.session; current = w.current; missed = omega arith })
heard_row false s w = quiet s w

seen_stands : (b : Bool) (s : ControllerState) (session : ℕ) → Stands s → Stands (seen_if b s session)
seen_stands true s session w =
    record { config = w.config; number = w.number; session = w.session; current = w.current; missed = w.missed }
seen_stands false s session w = w

confirmed_stands : (b : Bool) (s : ControllerState) → Stands s → Stands (confirmed_if b s)
confirmed_stands true s w = record { config = w.config; number = w.number; session = w.session; current = w.current; missed = w.missed }
confirmed_stands false s w = w

installed_row : (b : Bool) (s : ControllerState) (sequencer session : ℕ) → Stands s → IsRow (installed_if b s sequencer session, [])
installed_row true s sequencer session w =
    quiet (installed_if true s sequencer session)
    (confirmed_stands _ (seen_if (nat_lt s.session session) s session) (seen_stands (nat_lt s.session session) s session w))
installed_row false s sequencer session w = quiet s w

tick_row : (s : ControllerState) (t : Tick) → Stands s → IsRow (on_tick s t)
tick_row s ticks.Probe w = probe_row s.heard s w
tick_row s ticks.Resend w = resend_row s.confirmed s w
tick_row s (ticks.Install j) w = order_row (nat_lt j s.config.sequencers) s j refl w
tick_row s _ w = quiet s w

datagram_row : (s : ControllerState) (d : Result Datagram Bad) → Stands s → IsRow (on_datagram s d)
datagram_row s (Ok (datagrams.Pong controller sequencer round)) w = heard_row _ s w
datagram_row s (Ok (datagrams.Installed controller sequencer session)) w = installed_row (controller == s.number) s sequencer session w
datagram_row s _ w = quiet s w

row : (s : ControllerState) (i : Given) → Stands s → IsRow (next s i)
unfolding next
row s (Packet bytes) w = datagram_row s (reading bytes) w
row s (Ticked tick) w = tick_row s tick w
row s _ w = quiet s w

-- ---- runs

stays_within : (s : ControllerState) (inputs : List Given) → Stands s → Stands (after s inputs)
stays_within s [] w = w
stays_within s (i ∷ is) w = stays_within (next s i).0 is (row s i w).within

opens_within : (config : Configuration) (number : ℕ) → IsTrue (is_configuration config) → number < MAX_CONTROLLERS
    → Stands (opening config number)
opens_within config number is low =
    record { config = is; number = low; session = opens_fits number low; current = grind (arith, is); missed = omega arith }

same_number : (s : ControllerState) (inputs : List Given) → (after s inputs).number ≡ s.number
same_number s [] = refl
same_number s (i ∷ is) = same_number (next s i).0 is ∙ (goes_on s i).number

pub installs_of_last : (config : Configuration) (number : ℕ) (inputs : List Given) (input : Given) (dest : Dest) (bytes : List ℕ)
    (k j x : ℕ) → IsTrue (is_configuration config) → number < MAX_CONTROLLERS
    → Has (next (after (opening config number) inputs) input).1 (Send dest bytes) → reading bytes ≡ Ok (datagrams.Install k j x)
    → IsOf number (last_move (opening config number) (inputs ++ input ∷ [])) dest k j x
installs_of_last config number inputs input dest bytes k j x is low has read =
    let s : ControllerState = opening config number in
    let t : ControllerState = after s inputs in
    let w : Stands t = stays_within s inputs (opens_within config number is low) in
    let found : IsOf (next t input).0.number (move_of (next t input).0) dest k j x = (row t input w).installs dest bytes k j x has read in (
      found.0 ∙ (goes_on t input).number ∙ same_number s inputs,
      found.1,
      found.2 ∙ ap move_of (sym (one_more s inputs input)) ∙ last_of_state s (inputs ++ input ∷ []),
    )
