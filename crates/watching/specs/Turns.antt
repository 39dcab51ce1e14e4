-- The turns of a watch over its devices, and what it writes.
use Rattle.std.specs.Io.KnownBytes.{Appends}
use Rattle.std.specs.Option.{is_some}
use Rattle.std.specs.Prelude.{◌≡◌, ℕ, zero, suc, ◌-◌, max, List, [], ◌∷◌, ◌++◌, drop, Bool, true, false, not, nat_le, ◌&&◌, ◌||◌}
use Rattle.std.specs.Prelude.{Option, Some, None, Result, Ok, Err, ⊤}
use Rattle.nop_types.specs.Lists.{IsPrefixOf}
use Rattle.outside.specs.Clocks.{next_value, later_values}
use Rattle.outside.specs.Links.{next_poll, Polls}
use Rattle.outside.specs.Prefixes.{AppendsPrefix, AppendsUpTo}
use Rattle.outside.specs.declared.errors.DeviceError.TheVariants.{Failed}
use Rattle.outside.specs.declared.link.PollAnswer.{PollAnswer}
use Rattle.outside.specs.declared.link.PollAnswer.TheVariants.{Received, Failure}
use Rattle.roll_call.specs.Rolls as rolls
use Rattle.roll_call.specs.Rolls.{is_due}
use Rattle.watching.specs.Lines.{change_lines, state_lines, warning_news}
use Rattle.watching.specs.Screens.{drawn}
use Rattle.watching.specs.Watching.{Watching, hear, round, tick}
use Rattle.watching.specs.declared.lines.Change.{Change}
use Rattle.watching.specs.declared.running.WatchError.{WatchError}
use Rattle.watching.specs.declared.running.WatchError.TheVariants.{PortFault, LinkFault, WriteFault, NoMemory}
use Rattle.watching.specs.declared.turns.TheConstants.{WAIT_MILLIS}

-- a time, and the datagram that came then, if one did
pub record Turn : Type 0 where
  pub now : ℕ
  pub datagram : Option (List ℕ)

abbrev pub heard : Watching → ℕ → Option (List ℕ) → Watching × Option Change
heard w now None = (w, None)
heard w now (Some bytes) = hear w now bytes

-- what a round has to show: the nodes that stand otherwise than before, and the warning, where it is another
abbrev pub round_news_if : Bool → Watching → ℕ → List ℕ
round_news_if true w now = rolls.news w.roll now ++ warning_news now w.warned (round w now).warned
round_news_if false w now = []

abbrev pub round_news : Watching → ℕ → List ℕ
round_news w now = round_news_if (is_due w.roll now) w now

-- a datagram is heard, there is a round, and then it is so late
abbrev pub turned : Watching → Turn → Watching
turned w t = (tick (round (heard w t.now t.datagram).0 t.now) t.now).0

-- what a turn has to show: the line of a change comes first, that of a state last
abbrev pub news : Watching → Turn → List ℕ
news w t =
    change_lines w.replicas (heard w t.now t.datagram).1
    ++ (round_news (heard w t.now t.datagram).0 t.now
    ++ state_lines w.replicas (tick (round (heard w t.now t.datagram).0 t.now) t.now).1)

abbrev pub after_turn : Watching → Turn → Watching × List ℕ
after_turn w t = (turned w t, drawn w.redraws (turned w t) (news w t))

abbrev pub after_turns : Watching → List Turn → Watching × List ℕ
after_turns w [] = (w, [])
after_turns w (t ∷ ts) = ((after_turns (after_turn w t).0 ts).0, (after_turn w t).1 ++ (after_turns (after_turn w t).0 ts).1)

-- asked for one state: it was shown, or nothing was told for as long as is waited
abbrev pub ends : Bool → Watching → ℕ → Bool
ends once w now = once && (is_some w.shown || (not (is_some w.seen) && nat_le WAIT_MILLIS now))

-- ---- the turns over an observable link and clock

abbrev pub is_failure : PollAnswer → Bool
is_failure Failure = true
is_failure answer = false

abbrev pub datagram_of : PollAnswer → Option (List ℕ)
datagram_of (Received datagram) = Some datagram
datagram_of answer = None

abbrev pub turn_at : ℕ → PollAnswer → Turn
turn_at now answer = record { now = now; datagram = datagram_of answer }

-- did the poll fail, and is this the last turn
abbrev pub turn_then : (failed last : Bool) → Turn → List Turn → List Turn
turn_then true last t more = []
turn_then false true t more = t ∷ []
turn_then false false t more = t ∷ more

module _ (once : Bool) (begun : ℕ) where
  -- at most this number of turns, of which the first is now; the time of a turn is that since the watch began
  abbrev pub turns_from : ℕ → Watching → ℕ → List PollAnswer → List ℕ → List Turn
  turns_from zero w now answers values = []
  turns_from (suc k) w now answers values =
      turn_then (is_failure (next_poll answers))
      (ends once (after_turn w (turn_at (now - begun) (next_poll answers))).0 (now - begun))
      (turn_at (now - begun) (next_poll answers))
      (turns_from k (after_turn w (turn_at (now - begun) (next_poll answers))).0 (max now (next_value values)) (drop 1 answers)
      (later_values values))

-- it begins at the first value of the clock
abbrev pub turns_over : Bool → ℕ → Watching → List PollAnswer → List ℕ → List Turn
turns_over once most w answers values = turns_from once (next_value values) most w (next_value values) answers (later_values values)

-- where link and clock are observable, these are the turns; of an end in a turn, a front of them
abbrev pub AreTurns : Bool → ℕ → Watching → Option (List PollAnswer) → Option (List ℕ) → List Turn → Type 0
AreTurns once most w (Some answers) (Some values) turns = turns ≡ turns_over once most w answers values
AreTurns once most w answers values turns = ⊤

abbrev pub AreFirstTurns : Bool → ℕ → Watching → Option (List PollAnswer) → Option (List ℕ) → List Turn → Type 0
AreFirstTurns once most w (Some answers) (Some values) turns = IsPrefixOf turns (turns_over once most w answers values)
AreFirstTurns once most w answers values turns = ⊤

-- ---- one turn over devices

module _ (w later_w : Watching) (now : ℕ) (answers later : Option (List PollAnswer)) (before after : Option (List ℕ)) where
  -- a datagram came or none, and the lines of the turn were written
  pub record Turned : Type 0 where
    pub datagram : Option (List ℕ)
    pub polled : Polls answers later (Ok datagram)
    pub watch : later_w ≡ (after_turn w (record { now = now; datagram = datagram })).0
    pub wrote : Appends before after (after_turn w (record { now = now; datagram = datagram })).1

  -- the poll failed
  pub record TurnBroke : Type 0 where
    pub polled : Polls answers later (Err Failed)
    pub silent : after ≡ before

  -- the lines were not written whole
  pub record TurnStopped : Type 0 where
    pub datagram : Option (List ℕ)
    pub polled : Polls answers later (Ok datagram)
    pub wrote : AppendsPrefix before after (after_turn w (record { now = now; datagram = datagram })).1

  pub record TurnRanOut : Type 0 where
    pub datagram : Option (List ℕ)
    pub wrote : AppendsUpTo before after (after_turn w (record { now = now; datagram = datagram })).1

  abbrev pub TurnEnds : Result (Unit {0}) WatchError → Type 0
  TurnEnds (Ok done) = Turned
  TurnEnds (Err PortFault) = ⊥
  TurnEnds (Err LinkFault) = TurnBroke
  TurnEnds (Err WriteFault) = TurnStopped
  TurnEnds (Err NoMemory) = TurnRanOut

-- ---- what is written over all turns

module _ (once : Bool) (most : ℕ) (w : Watching) (answers : Option (List PollAnswer)) (values : Option (List ℕ))
    (before now : Option (List ℕ)) where
  -- some turns were taken, and their lines written
  pub record Watched (shown : Bool) : Type 0 where
    pub turns : List Turn
    pub are : AreTurns once most w answers values turns
    pub wrote : Appends before now (after_turns w turns).1
    pub has_shown : shown ≡ is_some (after_turns w turns).0.shown

  -- a poll failed behind these turns
  pub record Broke : Type 0 where
    pub turns : List Turn
    pub are : AreTurns once most w answers values turns
    pub wrote : Appends before now (after_turns w turns).1

  -- the last of these turns was not written whole
  pub record Stopped : Type 0 where
    pub turns : List Turn
    pub are : AreFirstTurns once most w answers values turns
    pub wrote : AppendsPrefix before now (after_turns w turns).1

  -- memory ran out in the last of these turns
  pub record RanOut : Type 0 where
    pub turns : List Turn
    pub wrote : AppendsUpTo before now (after_turns w turns).1

  abbrev pub WatchedBy : Result Bool WatchError → Type 0
  WatchedBy (Ok shown) = Watched shown
  WatchedBy (Err PortFault) = now ≡ before
  WatchedBy (Err LinkFault) = Broke
  WatchedBy (Err WriteFault) = Stopped
  WatchedBy (Err NoMemory) = RanOut
