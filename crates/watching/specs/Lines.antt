-- The lines of a watch, and what they are read back as.
use Rattle.std.specs.Prelude.{ℕ, List, [], ◌∷◌, ◌++◌, length, slice_get, Bool, false, cond, Option, Some, None, codes, decimal, ◌==◌, ◌&&◌, if◌then◌else◌}
use Rattle.nop_types.specs.Sessions.{home}
use Rattle.nop_types.specs.Views.{leader_of}
use Rattle.nop_types.specs.declared.output.Actor.TheVariants.{Controller, Replica}
use Rattle.nop_types.specs.declared.view.View.{View}
use Rattle.line_fields.specs.Fields.{number_of}
use Rattle.transcript_text.specs.LineText.{line_of}
use Rattle.transcript_text.specs.Transcript.{actor_text}
use Rattle.watching.specs.declared.lines.Change.{Change}
use Rattle.watching.specs.declared.lines.State.{State}
use Rattle.watching.specs.declared.lines.Warning.{Warning}
pub use Rattle.nop_types.specs.Options.{◌>>=◌}

-- a view of n replicas: its two numbers, who leads it, and whose session it has
abbrev pub view_fields : ℕ → View → List (List ℕ)
view_fields n v = decimal v.leader ∷ decimal v.session ∷ codes "leader" ∷ actor_text (Replica (leader_of v n))
    ∷ codes "controller" ∷ actor_text (Controller (home v.session)) ∷ []

abbrev pub state_fields : ℕ → State → List (List ℕ)
state_fields n s = view_fields n s.view
    ++ codes "synced" ∷ decimal s.synced ∷ codes "rate" ∷ decimal s.rate ∷ codes "age" ∷ decimal s.age ∷ []

abbrev pub change_fields : ℕ → Change → List (List ℕ)
change_fields n c = view_fields n c.view ++ codes "changed" ∷ decimal c.at ∷ []

unfoldable pub state_line : ℕ → State → List ℕ
state_line n s = line_of (codes "view") (state_fields n s)

unfoldable pub change_line : ℕ → Change → List ℕ
change_line n c = line_of (codes "view") (change_fields n c)

abbrev pub state_lines : ℕ → Option State → List ℕ
state_lines n None = []
state_lines n (Some s) = state_line n s

abbrev pub change_lines : ℕ → Option Change → List ℕ
change_lines n None = []
change_lines n (Some c) = change_line n c

-- the controller of the session in use, and since when it is silent
unfoldable pub warning_line : Warning → List ℕ
warning_line w = line_of (codes "warning") (actor_text (Controller w.controller) ∷ codes "silent" ∷ decimal w.since ∷ [])

-- there is no warning from this time on
unfoldable pub over_line : ℕ → List ℕ
over_line now = line_of (codes "warning") (codes "over" ∷ decimal now ∷ [])

abbrev pub warning_lines : Option Warning → List ℕ
warning_lines None = []
warning_lines (Some w) = warning_line w

abbrev pub is_warning : Option Warning → Warning → Bool
is_warning None w = false
is_warning (Some v) w = (v.controller == w.controller) && (v.since == w.since)

-- what a round writes of the warning before it and the one behind it
abbrev pub warning_news : ℕ → Option Warning → Option Warning → List ℕ
warning_news now None None = []
warning_news now (Some v) None = over_line now
warning_news now before (Some w) = cond (is_warning before w) [] (warning_line w)

-- ---- read back

abbrev pub number_at : List (List ℕ) → ℕ → Option ℕ
number_at fields i = slice_get fields i >>= number_of

abbrev pub view_in : List (List ℕ) → Option View
view_in fields = do
  leader ← number_at fields 1
  session ← number_at fields 2
  Some (record { leader = leader; session = session })

-- of thirteen fields
abbrev pub state_in : List (List ℕ) → Option State
state_in fields = do
  view ← view_in fields
  synced ← number_at fields 8
  rate ← number_at fields 10
  age ← number_at fields 12
  if length fields == 13 then Some (record { view = view; synced = synced; rate = rate; age = age }) else None

-- of nine fields
abbrev pub change_in : List (List ℕ) → Option Change
change_in fields = do
  view ← view_in fields
  at ← number_at fields 8
  if length fields == 9 then Some (record { view = view; at = at }) else None
