-- The moves of a controller over a list of inputs.
use Rattle.std.specs.Prelude.{ℕ, ◌<◌, ◌==◌, List, [], ◌∷◌, ◌++◌, cond, ⊤}
use Rattle.nop_types.specs.Given.{Given}
use Rattle.session_control.specs.declared.state.ControllerState.{ControllerState}
use Rattle.session_control.specs.ControllerSteps.{next}

-- a session for a sequencer
pub record Move : Type 0 where
  pub sequencer : ℕ
  pub session : ℕ

-- the state after some inputs
abbrev pub after : ControllerState → List Given → ControllerState
after s [] = s
after s (i ∷ is) = after (next s i).0 is

-- the current sequencer and the session
abbrev pub move_of : ControllerState → Move
move_of s = record { sequencer = s.current; session = s.session }

-- an input makes the controller move where it changes the session
abbrev pub move_in : ControllerState → Given → List Move
move_in s i = cond ((next s i).0.session == s.session) [] (move_of (next s i).0 ∷ [])

-- the moves that some inputs make, in order
abbrev pub moves : ControllerState → List Given → List Move
moves s [] = []
moves s (i ∷ is) = move_in s i ++ moves (next s i).0 is

abbrev pub last_of : Move → List Move → Move
last_of m [] = m
last_of m (n ∷ ns) = last_of n ns

-- the last of these moves, or what the state begins with
abbrev pub last_move : ControllerState → List Given → Move
last_move s is = last_of (move_of s) (moves s is)

-- each session is greater than the one before it, and the first is greater than n
abbrev pub AreRising : ℕ → List Move → Type 0
AreRising n [] = ⊤
AreRising n (m ∷ ms) = (n < m.session) × AreRising m.session ms
