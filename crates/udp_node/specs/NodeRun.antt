-- The run of a node, over what its clock and its link tell.
use Rattle.std.specs.Prelude.{◌≡◌, ℕ, zero, suc, ◌+◌, max, List, [], ◌∷◌, ◌++◌, Bool, true, false, map, drop, Option, Some, None, Result}
use Rattle.std.specs.Prelude.{Ok, Err, ⊤}
use Rattle.nop_types.specs.Given.{Given}
use Rattle.nop_types.specs.declared.input.Tick.{Tick}
use Rattle.nop_types.specs.declared.output.Out.{Out}
use Rattle.outside.specs.Clocks.{next_value, later_values}
use Rattle.outside.specs.Links.{next_poll}
use Rattle.outside.specs.declared.link.PollAnswer.{PollAnswer}
use Rattle.udp_node.specs.declared.errors.ServeError.{ServeError}
use Rattle.udp_node.specs.declared.errors.ServeError.TheVariants.{LinkFault, WriteFault, NoMemory}
use Rattle.udp_node.specs.declared.firing.Timer.{Timer}
use Rattle.udp_node.specs.declared.serving.Served.{Served}
use Rattle.udp_node.specs.Effects.{Effect, Act, Step, effects_by, Done, Stopped, StoppedInLine}
use Rattle.udp_node.specs.Folding.{folded, taking}
use Rattle.udp_node.specs.Sends.{LinkSide}
use Rattle.udp_node.specs.Timing.{armed, rearmed, is_failure}
use Rattle.udp_node.specs.Turns.{turn_of}

-- the polls and the core's steps, in order; the turns taken; whether the core was done; whether a poll failed
pub record NodeRun : Type 0 where
  pub acts : List Act
  pub turns : ℕ
  pub done : Bool
  pub broken : Bool

-- acts before a run
abbrev pub with_acts : List Act → NodeRun → NodeRun
with_acts acts r = record r { acts = acts ++ r.acts }

-- one turn more before a run
abbrev pub after_turn : List Act → NodeRun → NodeRun
after_turn acts r = record r { acts = acts ++ r.acts; turns = 1 + r.turns }

-- the run after what was done in a turn: did its poll fail, and is the core done
abbrev pub turn_then : (failed done : Bool) → List Act → NodeRun → NodeRun
turn_then true done acts r = record { acts = acts; turns = 0; done = done; broken = true }
turn_then false true acts r = record { acts = acts; turns = 1; done = true; broken = false }
turn_then false false acts r = after_turn acts r

module _ {S : Type 0} (next : S → Given → S × List Out) (is_done : S → Bool) where
  -- at most this number of turns, of which the first is now
  abbrev pub turns_from : ℕ → S → List Timer → ℕ → List PollAnswer → List ℕ → NodeRun
  turns_from zero s ts now answers values = record { acts = []; turns = 0; done = is_done s; broken = false }
  turns_from (suc k) s ts now answers values =
      turn_then (is_failure (next_poll answers)) (is_done (turn_of next s now ts (next_poll answers)).0)
      (turn_of next s now ts (next_poll answers)).1
      (turns_from k (turn_of next s now ts (next_poll answers)).0 (map (rearmed now) ts) (max now (next_value values))
      (drop 1 answers) (later_values values))

  -- the timers are first due a period after the first value
  abbrev pub node_run : List (Tick × ℕ) → ℕ → S → List PollAnswer → List ℕ → NodeRun
  node_run timers turns s answers values =
      turns_from turns s (map (armed (next_value values)) timers) (next_value values) answers (later_values values)

  -- a run after some inputs, whose steps come first
  abbrev pub run_after : List Given → List (Tick × ℕ) → ℕ → S → List PollAnswer → List ℕ → NodeRun
  run_after first timers turns s answers values =
      with_acts (taking next s first) (node_run timers turns (folded next s first).0 answers values)

-- the inputs before the first turn
abbrev pub first_inputs : Option Given → List Given
first_inputs None = []
first_inputs (Some input) = input ∷ []

-- how the run was served
pub record ServedRun (asks : Step → List Effect) (r : NodeRun) (served : Served) (a b : LinkSide) (h i : Option (List ℕ)) : Type 0 where
  pub turns : served.turns ≡ r.turns
  pub done : served.done ≡ r.done
  pub works : r.broken ≡ false
  pub effects : Done (effects_by asks r.acts) a b h i

-- a poll failed
pub record Broke (asks : Step → List Effect) (r : NodeRun) (a b : LinkSide) (h i : Option (List ℕ)) : Type 0 where
  pub broken : r.broken ≡ true
  pub effects : Done (effects_by asks r.acts) a b h i

-- by how the call ended; at an error any number of losses was counted
abbrev pub ServesRun : (Step → List Effect) → NodeRun → Result Served ServeError → LinkSide → LinkSide → Option (List ℕ) → Option (List ℕ) → Type 0
ServesRun asks r (Ok served) a b h i = ServedRun asks r served a (record b { lost = served.lost }) h i
ServesRun asks r (Err LinkFault) a b h i = (lost : ℕ) × Broke asks r a (record b { lost = lost }) h i
ServesRun asks r (Err WriteFault) a b h i = (lost : ℕ) × StoppedInLine (effects_by asks r.acts) a (record b { lost = lost }) h i
ServesRun asks r (Err NoMemory) a b h i = (lost : ℕ) × Stopped (effects_by asks r.acts) a (record b { lost = lost }) h i

-- where the link and the clock are observable, it is the run over it
abbrev pub ServesObserved : {S : Type 0} → (S → Given → S × List Out) → (S → Bool) → List (Tick × ℕ)
    → (Step → List Effect) → ℕ → S
    → Option (List PollAnswer) → Option (List ℕ) → Result Served ServeError → LinkSide → LinkSide → Option (List ℕ) → Option (List ℕ)
    → Type 0
ServesObserved next is_done timers asks turns s None values result a b h i = ⊤
ServesObserved next is_done timers asks turns s (Some answers) None result a b h i = ⊤
ServesObserved next is_done timers asks turns s (Some answers) (Some values) result a b h i =
    ServesRun asks (node_run next is_done timers turns s answers values) result a b h i

-- the same, after some inputs
abbrev pub ServesAfter : {S : Type 0} → (S → Given → S × List Out) → (S → Bool) → List Given → List (Tick × ℕ)
    → (Step → List Effect) → ℕ → S
    → Option (List PollAnswer) → Option (List ℕ) → Result Served ServeError → LinkSide → LinkSide → Option (List ℕ) → Option (List ℕ)
    → Type 0
ServesAfter next is_done first timers asks turns s None values result a b h i = ⊤
ServesAfter next is_done first timers asks turns s (Some answers) None result a b h i = ⊤
ServesAfter next is_done first timers asks turns s (Some answers) (Some values) result a b h i =
    ServesRun asks (run_after next is_done first timers turns s answers values) result a b h i
