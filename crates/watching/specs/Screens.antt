-- What is written on a screen.
use Rattle.std.specs.Prelude.{◌≡◌, ℕ, List, [], ◌∷◌, ◌++◌, ◌⊎◌, Bool, true, false, None}
use Rattle.roll_call.specs.Rolls.{standings}
use Rattle.watching.specs.Lines.{change_lines, state_lines, warning_lines}
use Rattle.watching.specs.Watching.{Watching}

-- the cursor goes to the first place of the screen, and all that stands on it is erased
abbrev pub clearing : List ℕ
clearing = 27 ∷ 91 ∷ 72 ∷ 27 ∷ 91 ∷ 74 ∷ []

-- the lines of the last change, of how nodes stand, of the warning, if there is one, and of the last state
abbrev pub last_lines : Watching → List ℕ
last_lines w =
    change_lines w.replicas w.changed ++ (standings w.roll ++ (warning_lines w.warned ++ state_lines w.replicas w.shown))

-- what is written where these lines are to be shown: they, behind those before; or if there are some, the last ones over those before
abbrev pub drawn : Bool → Watching → List ℕ → List ℕ
drawn false w lines = lines
drawn true w [] = []
drawn true w (x ∷ xs) = clearing ++ last_lines w

-- a screen on which this was written shows the last lines alone, or nothing where there is none
pub record ShowsNothing (text : List ℕ) (w : Watching) : Type 0 where
  pub silent : text ≡ []
  pub no_change : w.changed ≡ None
  pub no_state : w.shown ≡ None
  pub no_standing : standings w.roll ≡ []
  pub no_warning : w.warned ≡ None

pub record ShowsLast (text : List ℕ) (w : Watching) : Type 0 where
  pub before : List ℕ
  pub over : text ≡ before ++ (clearing ++ last_lines w)

abbrev pub IsScreen : List ℕ → Watching → Type 0
IsScreen text w = ShowsNothing text w ⊎ ShowsLast text w
