-- The sessions of the moves rise and are the controller's own, and the last move is what the state has.
use Rattle.std.proofs.Common.{◌≡◌, ◌≢◌, ◌≤◌, ◌<◌, ◌+◌, ℕ, zero, suc, List, [], ◌∷◌, ◌++◌, refl, ap, sym, subst, ◌∙◌, Option, Some, None}
use Rattle.std.proofs.Common.{Bool, true, false, cond, Result, Ok, arith}
use Rattle.std.specs.Prelude.{◌==◌, slice_get, nat_lt, nat_le}
use Rattle.std.proofs.lemmas.Option.{none-some, same_Some}
use Rattle.nop_types.specs.Configuration.{Configuration}
use Rattle.nop_types.specs.Given.{Given, Packet, Ticked}
use Rattle.nop_types.specs.Lists.{Has}
use Rattle.nop_types.specs.Sessions.{home}
use Rattle.nop_types.specs.declared.limits.TheConstants.{MAX_CONTROLLERS}
use Rattle.nop_types.specs.declared.input.Tick.{Tick}
use Rattle.nop_types.specs.declared.input.Tick.TheVariants as ticks
use Rattle.nop_types.specs.declared.datagram.Datagram.{Datagram}
use Rattle.nop_types.specs.declared.datagram.Datagram.TheVariants as datagrams
use Rattle.oum_codec.specs.declared.bad.Bad.{Bad}
use Rattle.oum_codec.specs.Reading.{reading}
use Rattle.session_control.specs.declared.state.ControllerState.{ControllerState}
use Rattle.session_control.specs.declared.state.TheConstants.{MISSED_END}
use Rattle.session_control.specs.ControllerSteps.{opening, last_number, next_session, move_by, move_to, order_if, ask_if, following}
use Rattle.session_control.specs.ControllerSteps.{miss_if, probe_if, heard_if, resend_if, confirmed_if, seen_if, installed_if, on_tick}
use Rattle.session_control.specs.ControllerSteps.{on_datagram, next}
use Rattle.session_control.specs.Moves.{Move, after, move_of, moves, last_of, last_move, AreRising}
use Rattle.session_control.proofs.Epochs.{opens_at_home, opens_above, goes_home, rises}

-- its session is one of its own
pub record IsOwn (s : ControllerState) : Type 0 where
  pub number : s.number < MAX_CONTROLLERS
  pub home : home s.session ≡ s.number

-- the session does not fall, and while it stays the current sequencer does; the number stays, and the session the controller's own
pub record GoesOn (s t : ControllerState) : Type 0 where
  pub rises : s.session ≤ t.session
  pub stays : t.session ≡ s.session → t.current ≡ s.current
  pub number : t.number ≡ s.number
  pub own : IsOwn s → IsOwn t

alike : (s t : ControllerState) → t.session ≡ s.session → t.current ≡ s.current → t.number ≡ s.number → GoesOn s t
alike s t session current number =
    record {
      rises = omega (arith, session);
      stays = λ _. current;
      number = number;
      own = λ o. record {
        number = subst (λ (n : ℕ). n < MAX_CONTROLLERS) (sym number) o.number;
        home = ap home session ∙ o.home ∙ sym number;
      };
    }

same : (s : ControllerState) → GoesOn s s
same s = alike s s refl refl refl

moved_on : (x : Option ℕ) (s : ControllerState) (j : ℕ) → next_session s.number s.session s.seen ≡ x → GoesOn s (move_by x s j).0
moved_on (Some session) s j e =
    let up = rises s.number s.session s.seen session e in
    record {
      rises = omega (arith, up.0);
      stays = λ e. absurd (omega (arith, up.0, e));
      number = refl;
      own = λ o. record { number = o.number; home = goes_home s.number s.session s.seen session o.number o.home e };
    }
moved_on None s j e = same s

moves_on : (s : ControllerState) (j : ℕ) → GoesOn s (move_to s j).0
moves_on s j = moved_on (next_session s.number s.session s.seen) s j refl

ordered_on : (b : Bool) (s : ControllerState) (j : ℕ) → GoesOn s (order_if b s j).0
ordered_on true s j = moves_on s j
ordered_on false s j = same s

asked_on : (b : Bool) (s : ControllerState) → GoesOn s (ask_if b s).0
asked_on true s = alike s (ask_if true s).0 refl refl refl
asked_on false s = same s

missed_on : (b : Bool) (s : ControllerState) → GoesOn s (miss_if b s).0
missed_on true s = moves_on s (following s)
missed_on false s =
    let t : ControllerState = record s { missed = s.missed + 1 } in
    let on : GoesOn t (ask_if (nat_lt t.round last_number) t).0 = asked_on (nat_lt t.round last_number) t in
    record { rises = on.rises; stays = on.stays; number = on.number; own = λ o. on.own (record { number = o.number; home = o.home }) }

probed_on : (b : Bool) (s : ControllerState) → GoesOn s (probe_if b s).0
probed_on true s = asked_on (nat_lt s.round last_number) s
probed_on false s = missed_on (nat_le MISSED_END (s.missed + 1)) s

resent_on : (b : Bool) (s : ControllerState) → GoesOn s (resend_if b s).0
resent_on true s = same s
resent_on false s = same s

heard_on : (b : Bool) (s : ControllerState) → GoesOn s (heard_if b s)
heard_on true s = alike s (heard_if true s) refl refl refl
heard_on false s = same s

confirmed_on : (b c : Bool) (s : ControllerState) (session : ℕ) → GoesOn s (confirmed_if b (seen_if c s session))
confirmed_on true true s session = alike s (confirmed_if true (seen_if true s session)) refl refl refl
confirmed_on true false s session = alike s (confirmed_if true s) refl refl refl
confirmed_on false true s session = alike s (seen_if true s session) refl refl refl
confirmed_on false false s session = same s

installed_on : (b : Bool) (s : ControllerState) (sequencer session : ℕ) → GoesOn s (installed_if b s sequencer session)
installed_on true s sequencer session = confirmed_on _ (nat_lt s.session session) s session
installed_on false s sequencer session = same s

ticked_on : (s : ControllerState) (t : Tick) → GoesOn s (on_tick s t).0
ticked_on s ticks.Probe = probed_on s.heard s
ticked_on s ticks.Resend = resent_on s.confirmed s
ticked_on s (ticks.Install j) = ordered_on (nat_lt j s.config.sequencers) s j
ticked_on s _ = same s

on_read : (s : ControllerState) (d : Result Datagram Bad) → GoesOn s (on_datagram s d).0
on_read s (Ok (datagrams.Pong controller sequencer round)) = heard_on _ s
on_read s (Ok (datagrams.Installed controller sequencer session)) = installed_on (controller == s.number) s sequencer session
on_read s _ = same s

pub goes_on : (s : ControllerState) (i : Given) → GoesOn s (next s i).0
unfolding next
goes_on s (Packet bytes) = on_read s (reading bytes)
goes_on s (Ticked tick) = ticked_on s tick
goes_on s _ = same s

-- ---- the sessions of the moves rise

rising_at : (b : Bool) (s t : ControllerState) (ms : List Move) → (t.session == s.session) ≡ b → GoesOn s t → AreRising t.session ms
    → AreRising s.session (cond b [] (move_of t ∷ []) ++ ms)
rising_at true s t ms test on rest = let e : t.session ≡ s.session = grind (arith, test) in subst (λ n. AreRising n ms) e rest
rising_at false s t ms test on rest = (grind (arith, test, on.rises), rest)

pub moves_rise : (s : ControllerState) (inputs : List Given) → AreRising s.session (moves s inputs)
moves_rise s [] = tt
moves_rise s (i ∷ is) =
    rising_at ((next s i).0.session == s.session) s (next s i).0 (moves (next s i).0 is) refl (goes_on s i) (moves_rise (next s i).0 is)

all_above : (n : ℕ) (ms : List Move) → AreRising n ms → (i : ℕ) (a : Move) → slice_get ms i ≡ Some a → n < a.session
all_above n [] rising i a e = absurd (none-some a e)
all_above n (m ∷ ms) rising zero a e = subst (λ (x : Move). n < x.session) (same_Some m a e) rising.0
all_above n (m ∷ ms) rising (suc i) a e =
    let low : m.session < a.session = all_above m.session ms rising.1 i a e in omega (arith, rising.0, low)

apart : (n : ℕ) (ms : List Move) (m : Move) → AreRising m.session ms → (i : ℕ) (a b : Move) → m ≡ a → slice_get ms i ≡ Some b
    → a.session ≡ b.session → ⊥
apart n ms m rising i a b is e same =
    let low : m.session < b.session = all_above m.session ms rising i b e in
    let own : m.session ≡ b.session = ap (λ (x : Move). x.session) is ∙ same in
    omega (arith, low, own)

rising_once : (n : ℕ) (ms : List Move) → AreRising n ms → (i j : ℕ) (a b : Move) → slice_get ms i ≡ Some a → slice_get ms j ≡ Some b
    → a.session ≡ b.session → i ≡ j
rising_once n [] rising i j a b e f same = absurd (none-some a e)
rising_once n (m ∷ ms) rising zero zero a b e f same = refl
rising_once n (m ∷ ms) rising zero (suc j) a b e f same = absurd (apart n ms m rising.1 j a b (same_Some m a e) f same)
rising_once n (m ∷ ms) rising (suc i) zero a b e f same = absurd (apart n ms m rising.1 i b a (same_Some m b f) e (sym same))
rising_once n (m ∷ ms) rising (suc i) (suc j) a b e f same = ap suc (rising_once m.session ms rising.1 i j a b e f same)

pub moves_once : (s : ControllerState) (inputs : List Given) (i j : ℕ) (a b : Move) → slice_get (moves s inputs) i ≡ Some a
    → slice_get (moves s inputs) j ≡ Some b → a.session ≡ b.session → i ≡ j
moves_once s inputs i j a b e f same = rising_once s.session (moves s inputs) (moves_rise s inputs) i j a b e f same

-- ---- the state has the last move

moved_state : (s t : ControllerState) → t.current ≡ s.current → t.session ≡ s.session → move_of t ≡ move_of s
moved_state s t current session = cc

last_at : (b : Bool) (s t : ControllerState) (ms : List Move) → (t.session == s.session) ≡ b → GoesOn s t
    → last_of (move_of t) ms ≡ last_of (move_of s) (cond b [] (move_of t ∷ []) ++ ms)
last_at true s t ms test on = let e : t.session ≡ s.session = grind (arith, test) in ap (λ m. last_of m ms) (moved_state s t (on.stays e) e)
last_at false s t ms test on = refl

pub last_of_state : (s : ControllerState) (inputs : List Given) → move_of (after s inputs) ≡ last_move s inputs
last_of_state s [] = refl
last_of_state s (i ∷ is) =
    last_of_state (next s i).0 is ∙ last_at ((next s i).0.session == s.session) s (next s i).0 (moves (next s i).0 is) refl (goes_on s i)

pub one_more : (s : ControllerState) (inputs : List Given) (i : Given) → after s (inputs ++ i ∷ []) ≡ (next (after s inputs) i).0
one_more s [] i = refl
one_more s (x ∷ xs) i = one_more (next s x).0 xs i

-- ---- the moves of all controllers

own_at : (k : ℕ) (b : Bool) (t : ControllerState) (ms : List Move) → home t.session ≡ k → ((a : Move) → Has ms a → home a.session ≡ k)
    → (a : Move) → Has (cond b [] (move_of t ∷ []) ++ ms) a → home a.session ≡ k
own_at k true t ms own rest a h = rest a h
own_at k false t ms own rest a (zero, e) = ap (λ (m : Move). home m.session) (sym (same_Some (move_of t) a e)) ∙ own
own_at k false t ms own rest a (suc i, e) = rest a (i, e)

moves_own : (k : ℕ) (s : ControllerState) (inputs : List Given) → s.number ≡ k → IsOwn s → (a : Move) → Has (moves s inputs) a
    → home a.session ≡ k
moves_own k s [] is own a h = absurd (none-some a h.1)
moves_own k s (i ∷ is) same own a h =
    let t : ControllerState = (next s i).0 in
    let on : GoesOn s t = goes_on s i in
    let mine : IsOwn t = on.own own in
    let here : t.number ≡ k = on.number ∙ same in
    own_at k (t.session == s.session) t (moves t is) (mine.home ∙ here) (moves_own k t is here mine) a h

pub moves_apart : (c d : Configuration) (i j : ℕ) (xs ys : List Given) (a b : Move) → i < MAX_CONTROLLERS → j < MAX_CONTROLLERS → i ≢ j
    → Has (moves (opening c i) xs) a → Has (moves (opening d j) ys) b → a.session ≢ b.session
moves_apart c d i j xs ys a b low below apart h g same =
    let mine = moves_own i (opening c i) xs refl (record { number = low; home = opens_at_home i low }) a h in
    let its = moves_own j (opening d j) ys refl (record { number = below; home = opens_at_home j below }) b g in
    apart (sym mine ∙ ap home same ∙ its)

pub one_sequencer : (c : Configuration) (i : ℕ) (xs : List Given) (a b : Move) → Has (moves (opening c i) xs) a
    → Has (moves (opening c i) xs) b → a.session ≡ b.session → a.sequencer ≡ b.sequencer
one_sequencer c i xs a b (m, e) (n, f) same =
    let ms : List Move = moves (opening c i) xs in
    let at : m ≡ n = moves_once (opening c i) xs m n a b e f same in
    let there : slice_get ms n ≡ Some a = subst (λ (k : ℕ). slice_get ms k ≡ Some a) at e in
    ap (λ (x : Move). x.sequencer) (same_Some a b (sym there ∙ f))

pub moves_later : (c : Configuration) (i : ℕ) (xs : List Given) (a : Move) → Has (moves (opening c i) xs) a → 1 < a.session
moves_later c i xs a (n, e) =
    let s : ControllerState = opening c i in
    let up : s.session < a.session = all_above s.session (moves s xs) (moves_rise s xs) n a e in
    let low = opens_above i in
    omega (arith, up, low)
