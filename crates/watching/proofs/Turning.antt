-- Turns of a watch, one after another.
use Rattle.std.proofs.Common.{◌≡◌, ℕ, suc, ◌+◌, ◌-◌, ◌<◌, ◌≤◌, max, List, [], ◌∷◌, ◌++◌, drop, length, take, Bool, true, false, Option}
use Rattle.std.proofs.Common.{Some, None, Result, Ok, Err, refl, ap, sym, subst, ◌∙◌, append_assoc, append-nil, arith, length-append}
use Rattle.std.specs.Io.KnownBytes.{Appends}
use Rattle.std.specs.Option.{is_some}
use Rattle.std.specs.Prelude.{⊤}
use Rattle.std.proofs.KnownBytes.{Appends-nil, Appends-trans}
use Rattle.std.proofs.Math.Seq.{take-append-add}
use Rattle.outside.specs.Clocks.{ReadsTime, next_value, later_values}
use Rattle.outside.specs.Links.{next_poll, poll_result, Polls}
use Rattle.outside.specs.Prefixes.{AppendsPrefix, AppendsUpTo}
use Rattle.outside.specs.declared.errors.DeviceError.TheVariants.{Failed}
use Rattle.outside.specs.declared.link.PollAnswer.{PollAnswer}
use Rattle.outside.specs.declared.link.PollAnswer.TheVariants.{Received, Nothing, Failure}
use Rattle.watching.specs.Turns.{Turn, after_turn, after_turns, ends, is_failure, datagram_of, turn_then, turns_from, turns_over}
use Rattle.watching.specs.Turns.{AreTurns, AreFirstTurns, Turned, TurnEnds, Watched, WatchedBy}
use Rattle.watching.specs.Watching.{Watching}
use Rattle.watching.specs.declared.running.WatchError.{WatchError}
use Rattle.watching.specs.declared.running.WatchError.TheVariants.{PortFault, LinkFault, WriteFault, NoMemory}

-- ---- one turn more

after_more : (w : Watching) (ts : List Turn) (t : Turn) → (after_turns w (ts ++ t ∷ [])).0 ≡ (after_turn (after_turns w ts).0 t).0
after_more w [] t = refl
after_more w (s ∷ ts) t = after_more (after_turn w s).0 ts t

text_more : (w : Watching) (ts : List Turn) (t : Turn)
    → (after_turns w (ts ++ t ∷ [])).1 ≡ (after_turns w ts).1 ++ (after_turn (after_turns w ts).0 t).1
text_more w [] t = append-nil (after_turn w t).1
text_more w (s ∷ ts) t =
    ap (λ (l : List ℕ). (after_turn w s).1 ++ l) (text_more (after_turn w s).0 ts t)
    ∙ sym (append_assoc (after_turn w s).1 (after_turns (after_turn w s).0 ts).1 (after_turn (after_turns (after_turn w s).0 ts).0 t).1)

-- ---- what was written before, and a front of what follows

up_to_then : (h i j : Option (List ℕ)) (xs ys : List ℕ) → Appends h i xs → AppendsUpTo i j ys → AppendsUpTo h j (xs ++ ys)
up_to_then h i j xs ys one two = record {
  count = length xs + two.count;
  appended = rw (take-append-add xs ys two.count) (Appends-trans h i j xs (take two.count ys) one two.appended);
}

prefix_then : (h i j : Option (List ℕ)) (xs ys : List ℕ) → Appends h i xs → AppendsPrefix i j ys → AppendsPrefix h j (xs ++ ys)
prefix_then h i j xs ys one two =
    let below = two.below in
    let more = length-append xs ys in
    record {
      count = length xs + two.count;
      below = omega (arith, below, more);
      appended = rw (take-append-add xs ys two.count) (Appends-trans h i j xs (take two.count ys) one two.appended);
    }

-- ---- a turn behind others

module _ (w x : Watching) (ts : List Turn) (t : Turn) (is : x ≡ (after_turns w ts).0) where
  state_then : (after_turn x t).0 ≡ (after_turns w (ts ++ t ∷ [])).0
  state_then = ap (λ (y : Watching). (after_turn y t).0) is ∙ sym (after_more w ts t)

  text_then : (after_turns w (ts ++ t ∷ [])).1 ≡ (after_turns w ts).1 ++ (after_turn x t).1
  text_then = text_more w ts t ∙ ap (λ (y : Watching). (after_turns w ts).1 ++ (after_turn y t).1) (sym is)

-- ---- the turn that a poll gives

polled_is : (p : PollAnswer) (d : Option (List ℕ)) → Ok d ≡ poll_result p → (is_failure p ≡ false) × (datagram_of p ≡ d)
polled_is (Received datagram) d e = (refl, cc)
polled_is Nothing d e = (refl, cc)
polled_is Failure d e = absurd cc

failed_is : (p : PollAnswer) → poll_result p ≡ Err Failed → is_failure p ≡ true
failed_is (Received datagram) e = absurd cc
failed_is Nothing e = absurd cc
failed_is Failure e = refl

abbrev turn_of : ℕ → Option (List ℕ) → Turn
turn_of now d = record { now = now; datagram = d }

module _ (once : Bool) (begun k : ℕ) (x : Watching) (now : ℕ) (b : List PollAnswer) (u : List ℕ) where
  -- those behind a turn with this datagram
  abbrev more_of : Option (List ℕ) → List Turn
  more_of d = turns_from once begun k (after_turn x (turn_of (now - begun) d)).0 (max now (next_value u)) (drop 1 b) (later_values u)

  abbrev last_of : Option (List ℕ) → Bool
  last_of d = ends once (after_turn x (turn_of (now - begun) d)).0 (now - begun)

  next_turn : (d : Option (List ℕ)) → Ok d ≡ poll_result (next_poll b) → (last : Bool) → last_of d ≡ last
      → turns_from once begun (suc k) x now b u ≡ turn_then false last (turn_of (now - begun) d) (more_of d)
  next_turn d e last is =
      let p = polled_is (next_poll b) d e in
      let o = datagram_of (next_poll b) in
      ap (λ (failed : Bool). turn_then failed (last_of o) (turn_of (now - begun) o) (more_of o)) p.0
      ∙ ap (λ (q : Option (List ℕ)). turn_then false (last_of q) (turn_of (now - begun) q) (more_of q)) p.1
      ∙ ap (λ (l : Bool). turn_then false l (turn_of (now - begun) d) (more_of d)) is

  no_turn : poll_result (next_poll b) ≡ Err Failed → turns_from once begun (suc k) x now b u ≡ []
  no_turn e =
      let o = datagram_of (next_poll b) in
      ap (λ (failed : Bool). turn_then failed (last_of o) (turn_of (now - begun) o) (more_of o)) (failed_is (next_poll b) e)

-- whether or not it is the last, the turn comes first
first_of : (last : Bool) (t : Turn) (more : List Turn) → (rest : List Turn) × (turn_then false last t more ≡ t ∷ rest)
first_of true t more = ([], refl)
first_of false t more = (more, refl)

-- ---- going on

module _ (once : Bool) (most : ℕ) (w : Watching) where
  -- of an observable link and clock: the turns are these, and then those from here on
  abbrev pub RestIs : Option (List PollAnswer) → Option (List ℕ) → ℕ → ℕ → Watching → ℕ → Option (List PollAnswer) → Option (List ℕ)
      → List Turn → Type 0
  RestIs (Some a) (Some v) begun k x now (Some b) (Some u) ts =
      (begun ≡ next_value v) × (turns_over once most w a v ≡ ts ++ turns_from once begun k x now b u)
  RestIs (Some a) (Some v) begun k x now later to_come ts = ⊥
  RestIs a v begun k x now later to_come ts = ⊤

module _ (once : Bool) (most : ℕ) (w : Watching) (answers : Option (List PollAnswer)) (values before : Option (List ℕ)) where
  -- some turns were taken, and so many may follow
  pub record Going (begun left : ℕ) (x : Watching) (now : ℕ) (later : Option (List PollAnswer)) (to_come written : Option (List ℕ)) : Type 0 where
    pub turns : List Turn
    pub watch : x ≡ (after_turns w turns).0
    pub wrote : Appends before written (after_turns w turns).1
    pub rest : RestIs once most w answers values begun left x now later to_come turns

module _ (once : Bool) (most : ℕ) (w : Watching) where
  rest_start : (a : Option (List PollAnswer)) (v u : Option (List ℕ)) (begun : ℕ) → ReadsTime v u begun
      → RestIs once most w a v begun most w begun a u []
  rest_start None v u begun h = tt
  rest_start (Some a) None u begun h = tt
  rest_start (Some a) (Some v) None begun h = absurd cc
  rest_start (Some a) (Some v) (Some u) begun h =
      let same : u ≡ later_values v = cc in
      (h.0, rw (same, h.0) refl)

  rest_turn : (a b c : Option (List PollAnswer)) (v u t : Option (List ℕ)) (begun k : ℕ) (x : Watching) (now time : ℕ)
      (d : Option (List ℕ)) (ts : List Turn) → RestIs once most w a v begun (suc k) x now b u ts → Polls b c (Ok d)
      → ends once (after_turn x (turn_of (now - begun) d)).0 (now - begun) ≡ false → ReadsTime u t time
      → RestIs once most w a v begun k (after_turn x (turn_of (now - begun) d)).0 (max now time) c t (ts ++ turn_of (now - begun) d ∷ [])
  rest_turn None b c v u t begun k x now time d ts rest polls goes reads = tt
  rest_turn (Some a) b c None u t begun k x now time d ts rest polls goes reads = tt
  rest_turn (Some a) None c (Some v) u t begun k x now time d ts rest polls goes reads = absurd rest
  rest_turn (Some a) (Some b) c (Some v) None t begun k x now time d ts rest polls goes reads = absurd rest
  rest_turn (Some a) (Some b) None (Some v) (Some u) t begun k x now time d ts rest polls goes reads = absurd cc
  rest_turn (Some a) (Some b) (Some c) (Some v) (Some u) None begun k x now time d ts rest polls goes reads = absurd cc
  rest_turn (Some a) (Some b) (Some c) (Some v) (Some u) (Some t) begun k x now time d ts rest polls goes reads =
      let one = next_turn once begun k x now b u d polls.0 false goes in
      let of_link : drop 1 b ≡ c = cc in
      let of_clock : later_values u ≡ t = cc in
      let later : List Turn = turns_from once begun k (after_turn x (turn_of (now - begun) d)).0 (max now time) c t in
      let same : more_of once begun k x now b u d ≡ later = rw (of_link, of_clock, reads.0) refl in (
        rest.0,
        rest.1 ∙ ap (λ (l : List Turn). ts ++ l) (one ∙ ap (λ (l : List Turn). turn_of (now - begun) d ∷ l) same)
            ∙ sym (append_assoc ts (turn_of (now - begun) d ∷ []) later),
      )

  last_turns : (a b c : Option (List PollAnswer)) (v u : Option (List ℕ)) (begun k : ℕ) (x : Watching) (now : ℕ) (d : Option (List ℕ))
      (ts : List Turn) → RestIs once most w a v begun (suc k) x now b u ts → Polls b c (Ok d)
      → ends once (after_turn x (turn_of (now - begun) d)).0 (now - begun) ≡ true → AreTurns once most w a v (ts ++ turn_of (now - begun) d ∷ [])
  last_turns None b c v u begun k x now d ts rest polls last = tt
  last_turns (Some a) b c None u begun k x now d ts rest polls last = tt
  last_turns (Some a) None c (Some v) u begun k x now d ts rest polls last = absurd rest
  last_turns (Some a) (Some b) c (Some v) None begun k x now d ts rest polls last = absurd rest
  last_turns (Some a) (Some b) c (Some v) (Some u) begun k x now d ts rest polls last =
      let one = next_turn once begun k x now b u d polls.0 true last in
      sym (rest.1 ∙ ap (λ (l : List Turn). ts ++ l) one)

  spent_turns : (a b : Option (List PollAnswer)) (v u : Option (List ℕ)) (begun : ℕ) (x : Watching) (now : ℕ) (ts : List Turn)
      → RestIs once most w a v begun 0 x now b u ts → AreTurns once most w a v ts
  spent_turns None b v u begun x now ts rest = tt
  spent_turns (Some a) b None u begun x now ts rest = tt
  spent_turns (Some a) None (Some v) u begun x now ts rest = absurd rest
  spent_turns (Some a) (Some b) (Some v) None begun x now ts rest = absurd rest
  spent_turns (Some a) (Some b) (Some v) (Some u) begun x now ts rest = sym (rest.1 ∙ append-nil ts)

  broken_turns : (a b c : Option (List PollAnswer)) (v u : Option (List ℕ)) (begun k : ℕ) (x : Watching) (now : ℕ) (ts : List Turn)
      → RestIs once most w a v begun (suc k) x now b u ts → Polls b c (Err Failed) → AreTurns once most w a v ts
  broken_turns None b c v u begun k x now ts rest polls = tt
  broken_turns (Some a) b c None u begun k x now ts rest polls = tt
  broken_turns (Some a) None c (Some v) u begun k x now ts rest polls = absurd rest
  broken_turns (Some a) (Some b) c (Some v) None begun k x now ts rest polls = absurd rest
  broken_turns (Some a) (Some b) c (Some v) (Some u) begun k x now ts rest polls =
      let none = no_turn once begun k x now b u (sym polls.0) in
      sym (rest.1 ∙ ap (λ (l : List Turn). ts ++ l) none ∙ append-nil ts)

  first_turns : (a b c : Option (List PollAnswer)) (v u : Option (List ℕ)) (begun k : ℕ) (x : Watching) (now : ℕ) (d : Option (List ℕ))
      (ts : List Turn) → RestIs once most w a v begun (suc k) x now b u ts → Polls b c (Ok d)
      → AreFirstTurns once most w a v (ts ++ turn_of (now - begun) d ∷ [])
  first_turns None b c v u begun k x now d ts rest polls = tt
  first_turns (Some a) b c None u begun k x now d ts rest polls = tt
  first_turns (Some a) None c (Some v) u begun k x now d ts rest polls = absurd rest
  first_turns (Some a) (Some b) c (Some v) None begun k x now d ts rest polls = absurd rest
  first_turns (Some a) (Some b) c (Some v) (Some u) begun k x now d ts rest polls =
      let last = last_of once begun k x now b u d in
      let one = next_turn once begun k x now b u d polls.0 last refl in
      let first = first_of last (turn_of (now - begun) d) (more_of once begun k x now b u d) in (
        first.0,
        rest.1 ∙ ap (λ (l : List Turn). ts ++ l) (one ∙ first.1) ∙ sym (append_assoc ts (turn_of (now - begun) d ∷ []) first.0),
      )

module _ (once : Bool) (most : ℕ) (w : Watching) (answers : Option (List PollAnswer)) (values before : Option (List ℕ)) where
  pub going_start : (begun left : ℕ) (x : Watching) (to_come : Option (List ℕ)) → left ≡ most → x ≡ w → ReadsTime values to_come begun
      → Going once most w answers values before begun left x begun answers to_come before
  going_start begun left x to_come all is reads = record {
    turns = [];
    watch = is;
    wrote = Appends-nil before;
    rest = rw (all, is) (rest_start once most w answers values to_come begun reads);
  }

  module _ (begun left : ℕ) (x : Watching) (now : ℕ) (later : Option (List PollAnswer)) (to_come written : Option (List ℕ))
      (going : Going once most w answers values before begun left x now later to_come written) where
    pub going_turn : (k : ℕ) → left ≡ suc k → (y : Watching) (c : Option (List PollAnswer)) (t after : Option (List ℕ)) (time : ℕ)
        → Turned x y (now - begun) later c written after → ends once y (now - begun) ≡ false → ReadsTime to_come t time
        → Going once most w answers values before begun k y (max now time) c t after
    going_turn k is y c t after time turn goes reads =
        let d = turn.datagram in
        let rest = subst (λ (n : ℕ). RestIs once most w answers values begun n x now later to_come going.turns) is going.rest in
        let same = sym turn.watch in
        record {
          turns = going.turns ++ turn_of (now - begun) d ∷ [];
          watch = turn.watch ∙ state_then w x going.turns (turn_of (now - begun) d) going.watch;
          wrote = rw (text_then w x going.turns (turn_of (now - begun) d) going.watch)
              (Appends-trans before written after (after_turns w going.turns).1 (after_turn x (turn_of (now - begun) d)).1 going.wrote turn.wrote);
          rest = subst (λ (z : Watching). RestIs once most w answers values begun k z (max now time) c t (going.turns ++ turn_of (now - begun) d ∷ [])) same
              (rest_turn once most w answers later c values to_come t begun k x now time d going.turns rest turn.polled
              (subst (λ (z : Watching). ends once z (now - begun) ≡ false) turn.watch goes) reads);
        }

    pub watch_shown : (k : ℕ) → left ≡ suc k → (y : Watching) (c : Option (List PollAnswer)) (after : Option (List ℕ)) (shown : Bool)
        → Turned x y (now - begun) later c written after → ends once y (now - begun) ≡ true → shown ≡ is_some y.shown
        → Watched once most w answers values before after shown
    watch_shown k is y c after shown turn last told =
        let d = turn.datagram in
        let rest = subst (λ (n : ℕ). RestIs once most w answers values begun n x now later to_come going.turns) is going.rest in
        let state = turn.watch ∙ state_then w x going.turns (turn_of (now - begun) d) going.watch in
        record {
          turns = going.turns ++ turn_of (now - begun) d ∷ [];
          are = last_turns once most w answers later c values to_come begun k x now d going.turns rest turn.polled
              (subst (λ (z : Watching). ends once z (now - begun) ≡ true) turn.watch last);
          wrote = rw (text_then w x going.turns (turn_of (now - begun) d) going.watch)
              (Appends-trans before written after (after_turns w going.turns).1 (after_turn x (turn_of (now - begun) d)).1 going.wrote turn.wrote);
          has_shown = told ∙ ap (λ (z : Watching). is_some z.shown) state;
        }

    pub watch_spent : left ≡ 0 → (shown : Bool) → shown ≡ is_some x.shown → Watched once most w answers values before written shown
    watch_spent is shown told =
        let rest = subst (λ (n : ℕ). RestIs once most w answers values begun n x now later to_come going.turns) is going.rest in
        record {
          turns = going.turns;
          are = spent_turns once most w answers later values to_come begun x now going.turns rest;
          wrote = going.wrote;
          has_shown = told ∙ ap (λ (z : Watching). is_some z.shown) going.watch;
        }

    pub watch_failed : (k : ℕ) → left ≡ suc k → (y : Watching) (c : Option (List PollAnswer)) (after : Option (List ℕ)) (e : WatchError)
        → TurnEnds x y (now - begun) later c written after (Err e) → WatchedBy once most w answers values before after (Err e)
    watch_failed k is y c after PortFault turn = absurd turn
    watch_failed k is y c after LinkFault turn =
        let rest = subst (λ (n : ℕ). RestIs once most w answers values begun n x now later to_come going.turns) is going.rest in
        record {
          turns = going.turns;
          are = broken_turns once most w answers later c values to_come begun k x now going.turns rest turn.polled;
          wrote = rw turn.silent going.wrote;
        }
    watch_failed k is y c after WriteFault turn =
        let d = turn.datagram in
        let rest = subst (λ (n : ℕ). RestIs once most w answers values begun n x now later to_come going.turns) is going.rest in
        record {
          turns = going.turns ++ turn_of (now - begun) d ∷ [];
          are = first_turns once most w answers later c values to_come begun k x now d going.turns rest turn.polled;
          wrote = rw (text_then w x going.turns (turn_of (now - begun) d) going.watch)
              (prefix_then before written after (after_turns w going.turns).1 (after_turn x (turn_of (now - begun) d)).1 going.wrote turn.wrote);
        }
    watch_failed k is y c after NoMemory turn =
        let d = turn.datagram in
        record {
          turns = going.turns ++ turn_of (now - begun) d ∷ [];
          wrote = rw (text_then w x going.turns (turn_of (now - begun) d) going.watch)
              (up_to_then before written after (after_turns w going.turns).1 (after_turn x (turn_of (now - begun) d)).1 going.wrote turn.wrote);
        }

-- ---- turns that are counted, at the time since the watch began

module _ (once : Bool) (most : ℕ) (w : Watching) (answers : Option (List PollAnswer)) (values before : Option (List ℕ)) where
  module _ (begun turns taken : ℕ) (x : Watching) (now : ℕ) (later : Option (List PollAnswer)) (to_come written : Option (List ℕ))
      (going : Going once most w answers values before begun (turns - taken) x now later to_come written) where
    pub turns_end : turns ≤ taken → (shown : Bool) → shown ≡ is_some x.shown → Watched once most w answers values before written shown
    turns_end all shown told =
        let none : turns - taken ≡ 0 = omega (arith, all) in
        watch_spent once most w answers values before begun (turns - taken) x now later to_come written going none shown told

    module _ (within : taken < turns) (time : ℕ) (at : time ≡ now - begun) (y : Watching) (c : Option (List PollAnswer)) (after : Option (List ℕ)) where
      one_less : turns - taken ≡ suc (turns - (taken + 1))
      one_less = omega (arith, within)

      pub turn_goes : (t : Option (List ℕ)) (value next : ℕ) → Turned x y time later c written after → ends once y time ≡ false
          → ReadsTime to_come t value → next ≡ max now value
          → Going once most w answers values before begun (turns - (taken + 1)) y next c t after
      turn_goes t value next turn goes reads is =
          rw is (going_turn once most w answers values before begun (turns - taken) x now later to_come written going (turns - (taken + 1)) one_less
          y c t after value (subst (λ (n : ℕ). Turned x y n later c written after) at turn)
          (subst (λ (n : ℕ). ends once y n ≡ false) at goes) reads)

      pub turn_shows : (shown : Bool) → Turned x y time later c written after → ends once y time ≡ true → shown ≡ is_some y.shown
          → Watched once most w answers values before after shown
      turn_shows shown turn last told =
          watch_shown once most w answers values before begun (turns - taken) x now later to_come written going (turns - (taken + 1)) one_less
          y c after shown (subst (λ (n : ℕ). Turned x y n later c written after) at turn) (subst (λ (n : ℕ). ends once y n ≡ true) at last) told

      pub turn_fails : (e : WatchError) → TurnEnds x y time later c written after (Err e)
          → WatchedBy once most w answers values before after (Err e)
      turn_fails e turn =
          watch_failed once most w answers values before begun (turns - taken) x now later to_come written going (turns - (taken + 1)) one_less
          y c after e (subst (λ (n : ℕ). TurnEnds x y n later c written after (Err e)) at turn)

-- a turn attaches nothing
pub no_attach : (x y : Watching) (time : ℕ) (later c : Option (List PollAnswer)) (written after : Option (List ℕ)) (e : WatchError)
    → TurnEnds x y time later c written after (Err e) → e ≡ PortFault → ⊥
no_attach x y time later c written after PortFault turn is = turn
no_attach x y time later c written after LinkFault turn is = cc
no_attach x y time later c written after WriteFault turn is = cc
no_attach x y time later c written after NoMemory turn is = cc

-- memory ran out before the first turn
pub watch_unbegun : (once : Bool) (most : ℕ) (w : Watching) (answers : Option (List PollAnswer)) (values before : Option (List ℕ))
    → WatchedBy once most w answers values before before (Err NoMemory)
watch_unbegun once most w answers values before = record { turns = []; wrote = record { count = 0; appended = Appends-nil before } }

-- what is not observable says less
pub watch_unseen : (once : Bool) (most : ℕ) (w : Watching) (answers : Option (List PollAnswer)) (values before now : Option (List ℕ))
    (r : Result Bool WatchError) → WatchedBy once most w answers values before now r → WatchedBy once most w None values before now r
watch_unseen once most w answers values before now (Ok shown) h = record { turns = h.turns; are = tt; wrote = h.wrote; has_shown = h.has_shown }
watch_unseen once most w answers values before now (Err PortFault) h = h
watch_unseen once most w answers values before now (Err LinkFault) h = record { turns = h.turns; are = tt; wrote = h.wrote }
watch_unseen once most w answers values before now (Err WriteFault) h = record { turns = h.turns; are = tt; wrote = h.wrote }
watch_unseen once most w answers values before now (Err NoMemory) h = record { turns = h.turns; wrote = h.wrote }
