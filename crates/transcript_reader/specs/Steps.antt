-- What was read of a transcript behind its first line, row by row.
use Rattle.std.specs.Prelude.{◌≡◌, ℕ, ◌+◌, ◌==◌, List, [], ◌∷◌, ◌++◌, length, map, Bool, true, false, Option, Some, None}
use Rattle.std.specs.Prelude.{if◌then◌else◌}
use Rattle.nop_types.specs.Lines.{Line}
use Rattle.nop_types.specs.declared.request.Request.{Request}
use Rattle.transcript_reader.specs.Claims.{lines_of}
use Rattle.transcript_reader.specs.Transcripts.{said_by}
use Rattle.transcript_reader.specs.declared.part.Part.{Part}
use Rattle.transcript_reader.specs.declared.part.Part.TheVariants.{Events, States, Observers, Members, Over}
use Rattle.transcript_reader.specs.declared.taken.Taken.{Taken}
use Rattle.transcript_rows.specs.declared.row.Row.{Row}
use Rattle.transcript_rows.specs.declared.row.Row.TheVariants.{State, Slot, Watching, Member, End}

pub record SoFar : Type 0 where
  pub part : Part
  pub said : List Line
  pub places : List ℕ
  pub history : List Request

abbrev pub nothing_yet : SoFar
nothing_yet = record { part = Events; said = []; places = []; history = [] }

abbrev pub so_far : Taken → SoFar
so_far t = record { part = t.part; said = lines_of t.claims.items; places = t.places.items; history = t.history.items }

abbrev pub is_events : Part → Bool
is_events Events = true
is_events _ = false

abbrev pub may_have_states : Part → Bool
may_have_states Events = true
may_have_states States = true
may_have_states Observers = false
may_have_states Members = false
may_have_states Over = false

abbrev pub may_have_observers : Part → Bool
may_have_observers Events = true
may_have_observers States = true
may_have_observers Observers = true
may_have_observers Members = false
may_have_observers Over = false

abbrev pub is_over : Part → Bool
is_over Events = false
is_over States = false
is_over Observers = false
is_over Members = false
is_over Over = true

-- an event row with this number, which claims this
abbrev pub event_step : ℕ → SoFar → List Line → Option SoFar
event_step line s claim =
    if is_events s.part then Some (record s { said = s.said ++ claim; places = s.places ++ map (λ l. line) claim }) else None

abbrev pub state_step : SoFar → Option SoFar
state_step s = if may_have_states s.part then Some (record s { part = States }) else None

abbrev pub observer_step : SoFar → Option SoFar
observer_step s = if may_have_observers s.part then Some (record s { part = Observers }) else None

abbrev pub member_step : SoFar → ℕ → Request → Option SoFar
member_step s place r =
    if is_over s.part then None
    else if place == length s.history + 1 then Some (record s { part = Members; history = s.history ++ r ∷ [] })
    else None

abbrev pub end_step : SoFar → Option SoFar
end_step s = if is_over s.part then None else Some (record s { part = Over })

-- with the row of this line, None where it is out of place
abbrev pub step : ℕ → SoFar → Row → Option SoFar
step line s (State replica crashed status view len sync_point) = state_step s
step line s (Slot replica slot entry) = state_step s
step line s (Watching observer crashed position) = observer_step s
step line s (Member place request) = member_step s place request
step line s End = end_step s
step line s x = event_step line s (said_by x)

abbrev pub run_on : Option SoFar → ℕ → List Row → Option SoFar
run_on s line [] = s
run_on None line (row ∷ rows) = None
run_on (Some s) line (row ∷ rows) = run_on (step line s row) (line + 1) rows

-- of rows from line 2 on
abbrev pub run : List Row → Option SoFar
run rows = run_on (Some nothing_yet) 2 rows

-- what a call that takes a row answers: whether it is in its place
abbrev pub IsStep : Option SoFar → Bool → SoFar → Type 0
IsStep (Some s) took new = (took ≡ true) × (new ≡ s)
IsStep None took new = took ≡ false
