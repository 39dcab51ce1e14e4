-- What a turn is, and how it ends.
use Rattle.std.specs.Prelude.{◌≡◌, ℕ, List, [], ◌∷◌, ◌++◌, map, false, Option, Result, Ok, Err}
use Rattle.nop_types.specs.Given.{Given}
use Rattle.nop_types.specs.declared.output.Out.{Out}
use Rattle.outside.specs.declared.errors.DeviceError.{DeviceError}
use Rattle.outside.specs.declared.errors.DeviceError.TheVariants as writes
use Rattle.outside.specs.declared.link.PollAnswer.{PollAnswer}
use Rattle.outside.specs.declared.link.PollAnswer.TheVariants.{Failure}
use Rattle.udp_node.specs.declared.errors.ServeError.{ServeError}
use Rattle.udp_node.specs.declared.errors.ServeError.TheVariants.{LinkFault, WriteFault, NoMemory}
use Rattle.udp_node.specs.declared.firing.Timer.{Timer}
use Rattle.udp_node.specs.Effects.{Effect, Act, Step, Polling, effects_by, Done, Stopped, StoppedInLine}
use Rattle.udp_node.specs.Folding.{folded, taking}
use Rattle.udp_node.specs.Sends.{LinkSide}
use Rattle.udp_node.specs.Timing.{rearmed, due_ticks, packet_of, is_failure, Gives, Takes}

abbrev pub error_of : DeviceError → ServeError
error_of writes.Failed = WriteFault
error_of writes.NoMemory = NoMemory

module _ {S : Type 0} (next : S → Given → S × List Out) where
  -- the state after the ticks that are due, and the steps that take them
  abbrev pub ticked : S → ℕ → List Timer → S × List Act
  ticked s now ts = ((folded next s (due_ticks now ts)).0, taking next s (due_ticks now ts))

  -- the poll, and the state after the packet if there is one
  abbrev pub polled : S → PollAnswer → S × List Act
  polled s answer = ((folded next s (packet_of answer)).0, Polling ∷ taking next s (packet_of answer))

  -- a turn: the ticks, the poll, and the packet
  abbrev pub turn_of : S → ℕ → List Timer → PollAnswer → S × List Act
  turn_of s now ts answer = ((polled (ticked s now ts).0 answer).0, (ticked s now ts).1 ++ (polled (ticked s now ts).0 answer).1)

module _ {S : Type 0} (next : S → Given → S × List Out) (asks : Step → List Effect) where
  -- the core took the ticks that were due and the packet, and what it gave was done
  pub record Turned (s t : S) (now : ℕ) (ts us : List Timer) (answers later : Option (List PollAnswer)) (a b : LinkSide)
      (h i : Option (List ℕ)) : Type 0 where
    pub answer : PollAnswer
    pub taken : Takes answers later answer
    pub works : is_failure answer ≡ false
    pub timers : us ≡ map (rearmed now) ts
    pub state : t ≡ (turn_of next s now ts answer).0
    pub done : Done (effects_by asks (turn_of next s now ts answer).1) a b h i

  -- the poll failed; what the ticks gave was done before
  pub record PollFailed (s : S) (now : ℕ) (ts : List Timer) (answers : Option (List PollAnswer)) (a b : LinkSide)
      (h i : Option (List ℕ)) : Type 0 where
    pub gives : Gives answers Failure
    pub done : Done (effects_by asks ((ticked next s now ts).1 ++ Polling ∷ [])) a b h i

  -- a line was not written whole
  pub record TurnInLine (s : S) (now : ℕ) (ts : List Timer) (answers : Option (List PollAnswer)) (a b : LinkSide)
      (h i : Option (List ℕ)) : Type 0 where
    pub answer : PollAnswer
    pub gives : Gives answers answer
    pub stopped : StoppedInLine (effects_by asks (turn_of next s now ts answer).1) a b h i

  -- memory ran out
  pub record TurnStopped (s : S) (now : ℕ) (ts : List Timer) (answers : Option (List PollAnswer)) (a b : LinkSide)
      (h i : Option (List ℕ)) : Type 0 where
    pub answer : PollAnswer
    pub gives : Gives answers answer
    pub stopped : Stopped (effects_by asks (turn_of next s now ts answer).1) a b h i

  abbrev pub TurnEnds : {T : Type 0} → S → S → ℕ → List Timer → List Timer → Option (List PollAnswer) → Option (List PollAnswer)
      → Result T ServeError → LinkSide → LinkSide → Option (List ℕ) → Option (List ℕ) → Type 0
  TurnEnds s t now ts us answers later (Ok r) a b h i = Turned s t now ts us answers later a b h i
  TurnEnds s t now ts us answers later (Err LinkFault) a b h i = PollFailed s now ts answers a b h i
  TurnEnds s t now ts us answers later (Err WriteFault) a b h i = TurnInLine s now ts answers a b h i
  TurnEnds s t now ts us answers later (Err NoMemory) a b h i = TurnStopped s now ts answers a b h i
