-- The printed schedule of a run.
use Rattle.std.specs.Prelude.{◌≡◌, ◌≤◌, ◌+◌, ℕ, List, [], ◌∷◌, ◌++◌, length, map, true, None, Ok}
use Rattle.std.specs.List.{AllByRecursion, flat_map}
use Rattle.nop_types.specs.Configuration.{Configuration}
use Rattle.nop_types.specs.Headers.{is_header}
use Rattle.nop_types.specs.Meaning.{Meaning}
use Rattle.nop_types.specs.declared.limits.TheConstants.{MAX_LINES}
use Rattle.schedule_text.specs.Cutting.{lines_of}
use Rattle.schedule_text.specs.EventText.{Means, event_text}
use Rattle.schedule_text.specs.Rules.{header_of}
use Rattle.schedule_text.specs.declared.event.Event.{Event}
use Rattle.trace_text.specs.Traces.{header_line}
use Rattle.transcript_text.specs.Transcript.{transcript_line, lines_text}
use Rattle.world.specs.Ending.{final_text}
use Rattle.world.specs.WorldSteps.{Happened, opening, run}
use Rattle.replay.specs.Output.{output, schedule_from}

-- the line of an event, with its end
abbrev pub event_line : Event → List ℕ
event_line e = event_text e ++ 10 ∷ []

-- the schedule of the events: a header of this form, and a line for each event
unfoldable pub printed : ℕ → Configuration → List Event → List ℕ
printed form c es = header_line form c ++ flat_map event_line es

-- the line of an event means it, as `event_line` of the code ensures
abbrev pub LineMeans : Event → Type 0
LineMeans e = Means (event_text e) e

abbrev pub LinesMean : List Event → Type 0
LinesMean es = AllByRecursion LineMeans es

module _ {S : Type 0} (m : Meaning S) where
  -- the bytes are this header and the lines of these events, of which none is bad; and what is written for them is the transcript of the
  -- run of these events
  pub record IsReadAs (form : ℕ) (c : Configuration) (es : List Event) (h : Happened) (bytes : List ℕ) : Type 0 where
    pub first : List ℕ
    pub lines : lines_of true 0 bytes ≡ first ∷ map event_text es
    pub header : header_of first ≡ Ok (record { form = form; config = c })
    pub events : schedule_from m c (opening c) 1 (map event_text es) ≡ record { events = es; bad = None }
    pub written : output m true bytes
        ≡ record { text = transcript_line form c ++ (lines_text h.lines ++ final_text h.world); bad = None }

  -- the printed schedule of a run is read as that run, where it has no more lines than a schedule may have
  abbrev pub PrintsAgain : Type 0
  PrintsAgain = (form : ℕ) (c : Configuration) (es : List Event) (h : Happened)
      → is_header (record { form = form; config = c }) ≡ true → run m c es ≡ Ok h → LinesMean es → 1 + length es ≤ MAX_LINES
      → IsReadAs form c es h (printed form c es)
