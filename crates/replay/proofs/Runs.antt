-- What is written for the lines that are left, by the turns of the reader.
use Rattle.std.proofs.Common.{◌≡◌, ℕ, ◌+◌, List, [], ◌∷◌, ◌++◌, Bool, Option, Some, None, Result, Ok, Err, refl, sym, ap, ◌∙◌, append_assoc}
use Rattle.std.proofs.lemmas.List.{append-nil}
use Rattle.std.proofs.lemmas.List.Concat.{flat_map-append}
use Rattle.nop_types.specs.Configuration.{Configuration}
use Rattle.nop_types.specs.declared.header.Header.{Header}
use Rattle.nop_types.specs.Lines.{Line}
use Rattle.nop_types.specs.Meaning.{Meaning}
use Rattle.schedule_text.specs.declared.event.Event.{Event}
use Rattle.schedule_text.specs.declared.rule.Rule.{Rule}
use Rattle.schedule_text.specs.Rules.{header_of, event_of}
use Rattle.schedule_text.specs.Reading.{Turn, turn, turn_after, event_turn, header_turn}
use Rattle.transcript_text.specs.Transcript.{transcript_line, line_text, lines_text}
use Rattle.world.specs.WorldSteps.{WorldState, Refusal, Happened, step, go_on, run_from, opening}
use Rattle.replay.specs.Output.{Output, Schedule, BadLine, ending, then_text, text_after, stepped, scheduled, schedule_from, written, rest}
use Rattle.replay.specs.Output.{begun, output_of_lines}
use Rattle.replay.specs.Progress.{after_step, after_turn}

-- a reader that took line 1 keeps what it says
turn_header_line : (h : Header) (k : ℕ) (line : List ℕ) (lines : List (List ℕ)) (r : Result Event Rule)
    → (event_turn h k line lines r).header ≡ Some h
turn_header_line h k line lines (Ok e) = refl
turn_header_line h k line lines (Err rule) = refl

pub turn_header : (h : Header) (k : ℕ) (lines : List (List ℕ)) → (turn_after h k lines).header ≡ Some h
turn_header h k [] = refl
turn_header h k (line ∷ lines) = turn_header_line h k line lines (event_of h.config k line)

-- lines that stand before
abbrev pub after_lines : List Line → Result Happened Refusal → Result Happened Refusal
after_lines lines (Err refusal) = Err refusal
after_lines lines (Ok h) = Ok (record { world = h.world; lines = lines ++ h.lines })

pub after_lines_twice : (a b : List Line) (r : Result Happened Refusal) → after_lines a (after_lines b r) ≡ after_lines (a ++ b) r
after_lines_twice a b (Err refusal) = refl
after_lines_twice a b (Ok h) = ap (λ (ls : List Line). Ok (record { world = h.world; lines = ls })) (sym (append_assoc a b h.lines))

module _ {S : Type 0} (m : Meaning S) where
  abbrev pub more_runs : List Event → List Line → Result Happened Refusal → Result Happened Refusal
  more_runs es lines r = go_on m lines r (λ more v. run_from m more v es)

  -- the lines so far only stand before the others
  abbrev pub RunsBehind : List Event → Type 0
  RunsBehind es = (lines : List Line) (w : WorldState) → run_from m lines w es ≡ after_lines lines (run_from m [] w es)

  run_behind_step : (es : List Event) → RunsBehind es → (lines : List Line) (r : Result Happened Refusal)
      → more_runs es lines r ≡ after_lines lines (more_runs es [] r)
  run_behind_step es behind lines (Err refusal) = refl
  run_behind_step es behind lines (Ok h) =
      behind (lines ++ h.lines) h.world ∙ sym (after_lines_twice lines h.lines (run_from m [] h.world es))
      ∙ ap (after_lines lines) (sym (behind h.lines h.world))

  pub run_behind : (es : List Event) → RunsBehind es
  run_behind [] lines w = ap (λ (ls : List Line). Ok (record { world = w; lines = ls })) (sym (append-nil lines))
  run_behind (e ∷ es) lines w = run_behind_step es (run_behind es) lines (step m w e)

  -- the events of a schedule happen
  abbrev pub Runs : WorldState → List Event → Type 0
  Runs w es = (h : Happened) × (run_from m [] w es ≡ Ok h)

  abbrev pub ScheduleRuns : Configuration → List (List ℕ) → Type 0
  ScheduleRuns c lines = (w : WorldState) (k : ℕ) → Runs w (schedule_from m c w k lines).events

  schedule_runs_event : (c : Configuration) (lines : List (List ℕ)) → ScheduleRuns c lines
      → (w : WorldState) (k : ℕ) (e : Event) (r : Result Happened Refusal) → step m w e ≡ r
      → Runs w (stepped k e r (λ v. schedule_from m c v (k + 1) lines)).events
  schedule_runs_event c lines all w k e (Err refusal) is = (record { world = w; lines = [] }, refl)
  schedule_runs_event c lines all w k e (Ok h) is =
      let es = (schedule_from m c h.world (k + 1) lines).events in
      let p = all h.world (k + 1) in (
        record { world = p.0.world; lines = h.lines ++ p.0.lines },
        ap (more_runs es []) is ∙ run_behind es h.lines h.world ∙ ap (after_lines h.lines) p.1,
      )

  schedule_runs_line : (c : Configuration) (lines : List (List ℕ)) → ScheduleRuns c lines → (w : WorldState) (k : ℕ) (r : Result Event Rule)
      → Runs w (scheduled m w k r (λ v. schedule_from m c v (k + 1) lines)).events
  schedule_runs_line c lines all w k (Err rule) = (record { world = w; lines = [] }, refl)
  schedule_runs_line c lines all w k (Ok e) = schedule_runs_event c lines all w k e (step m w e) refl

  pub schedule_runs : (c : Configuration) (lines : List (List ℕ)) → ScheduleRuns c lines
  schedule_runs c [] w k = (record { world = w; lines = [] }, refl)
  schedule_runs c (line ∷ lines) w k = schedule_runs_line c lines (schedule_runs c lines) w k (event_of c k line)

  -- the text of an event stands before that of the events behind it
  pub text_behind : (ended : Bool) (bad : Option BadLine) (lines : List Line) (r : Result Happened Refusal) (h : Happened) → r ≡ Ok h →
      text_after ended bad (after_lines lines r) ≡ lines_text lines ++ text_after ended bad r
  text_behind ended bad lines r h is =
      rw is (ap (λ (t : List ℕ). t ++ ending ended h.world bad) (flat_map-append line_text lines h.lines)
      ∙ append_assoc (lines_text lines) (lines_text h.lines) (ending ended h.world bad))

  pub written_event : (ended : Bool) (w : WorldState) (e : Event) (h : Happened) (s : Schedule) → step m w e ≡ Ok h
      → Runs h.world s.events →
      written m ended w (record { events = e ∷ s.events; bad = s.bad }) ≡ then_text (lines_text h.lines) (written m ended h.world s)
  written_event ended w e h s is runs =
      let text =
      ap (text_after ended s.bad) (ap (more_runs s.events []) is ∙ run_behind s.events h.lines h.world)
      ∙ text_behind ended s.bad h.lines (run_from m [] h.world s.events) runs.0 runs.1 in
      ap (λ (t : List ℕ). record { text = t; bad = s.bad }) text

  -- what is written is what the turn of the reader gives
  rest_is_event : (ended : Bool) (c : Configuration) (w : WorldState) (k : ℕ) (lines : List (List ℕ)) (e : Event)
      (r : Result Happened Refusal) → step m w e ≡ r
      → written m ended w (stepped k e r (λ v. schedule_from m c v (k + 1) lines)) ≡ after_step m ended c (k + 1) lines r
  rest_is_event ended c w k lines e (Err refusal) is = refl
  rest_is_event ended c w k lines e (Ok h) is =
      written_event ended w e h (schedule_from m c h.world (k + 1) lines) is (schedule_runs c lines h.world (k + 1))

  rest_is_line : (ended : Bool) (h : Header) (w : WorldState) (k : ℕ) (line : List ℕ) (lines : List (List ℕ)) (r : Result Event Rule)
      → written m ended w (scheduled m w k r
      (λ v. schedule_from m h.config v (k + 1) lines)) ≡ after_turn m ended h.config w (event_turn h k line lines r)
  rest_is_line ended h w k line lines (Err rule) = refl
  rest_is_line ended h w k line lines (Ok e) = rest_is_event ended h.config w k lines e (step m w e) refl

  pub rest_is : (ended : Bool) (h : Header) (w : WorldState) (k : ℕ) (lines : List (List ℕ))
      → rest m ended h.config w k lines ≡ after_turn m ended h.config w (turn_after h k lines)
  rest_is ended h w k [] = refl
  rest_is ended h w k (line ∷ lines) = rest_is_line ended h w k line lines (event_of h.config k line)

  -- what a schedule begins with, and what follows a turn
  abbrev pub begun_with : Bool → Header → Turn → Output
  begun_with ended h t = then_text (transcript_line h.form h.config) (after_turn m ended h.config (opening h.config) t)

  -- line 1 was taken
  begun_is_line : (ended : Bool) (h : Header) (line : List ℕ) (lines : List (List ℕ)) (r : Result Header Rule)
      → (header_turn 0 line lines r).header ≡ Some h → begun m ended lines r ≡ begun_with ended h (header_turn 0 line lines r)
  begun_is_line ended h line lines (Err rule) is = absurd cc
  begun_is_line ended h line lines (Ok d) is =
      let same : d ≡ h = cc (is, turn_header d 1 lines) in
      rw same (ap (then_text (transcript_line h.form h.config)) (rest_is ended h (opening h.config) 1 lines))

  pub begun_is : (ended : Bool) (h : Header) (lines : List (List ℕ)) → (turn None 0 lines).header ≡ Some h
      → output_of_lines m ended lines ≡ begun_with ended h (turn None 0 lines)
  begun_is ended h [] is = absurd cc
  begun_is ended h (line ∷ lines) is = begun_is_line ended h line lines (header_of line) is
