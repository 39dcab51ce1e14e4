-- A core over several inputs.
use Rattle.std.specs.Io.KnownBytes.{Appends}
use Rattle.std.specs.Prelude.{◌≡◌, ℕ, List, [], ◌∷◌, ◌++◌, map, Option, Result, Ok, Err, ⊤}
use Rattle.nop_types.specs.Given.{Given, Packet, Ticked}
use Rattle.nop_types.specs.declared.output.Out.{Out}
use Rattle.outside.specs.declared.errors.DeviceError.{DeviceError}
use Rattle.udp_node.specs.Effects.{Effect, Act, Stepping, Step, effects_by, lines, Done, Stops}
use Rattle.udp_node.specs.Sends.{LinkSide}

-- an input from outside is a packet or a tick
abbrev pub AllOutside : List Given → Type 0
AllOutside [] = ⊤
AllOutside (Packet bytes ∷ is) = AllOutside is
AllOutside (Ticked tick ∷ is) = AllOutside is
AllOutside _ = ⊥

module _ {S : Type 0} (next : S → Given → S × List Out) where
  -- the state after some inputs, and all outputs in order
  abbrev pub folded : S → List Given → S × List Out
  folded s [] = (s, [])
  folded s (i ∷ is) = ((folded (next s i).0 is).0, (next s i).1 ++ (folded (next s i).0 is).1)

  -- its steps over them
  abbrev pub steps_of : S → List Given → List Step
  steps_of s [] = []
  steps_of s (i ∷ is) = record { given = i; outs = (next s i).1 } ∷ steps_of (next s i).0 is

  abbrev pub taking : S → List Given → List Act
  taking s inputs = map Stepping (steps_of s inputs)

  -- the inputs were taken, and what they gave was done
  pub record Ran (asks : Step → List Effect) (s t : S) (inputs : List Given) (a b : LinkSide) (before now : Option (List ℕ)) : Type 0 where
    pub state : t ≡ (folded s inputs).0
    pub done : Done (effects_by asks (taking s inputs)) a b before now

  abbrev pub Runs : {T : Type 0} → (Step → List Effect) → S → S → List Given → Result T DeviceError → LinkSide → LinkSide
      → Option (List ℕ) → Option (List ℕ) → Type 0
  Runs asks s t inputs (Ok r) a b before now = Ran asks s t inputs a b before now
  Runs asks s t inputs (Err e) a b before now = Stops (effects_by asks (taking s inputs)) e a b before now

  -- whatever the link and the clock tell: the core took the first inputs and then some packets and ticks, and the lines of its steps
  -- were written
  pub record TookSome (asks : Step → List Effect) (first : List Given) (s t : S) (before now : Option (List ℕ)) : Type 0 where
    pub inputs : List Given
    pub outside : AllOutside inputs
    pub state : t ≡ (folded s (first ++ inputs)).0
    pub written : Appends before now (lines (effects_by asks (taking s (first ++ inputs))))
