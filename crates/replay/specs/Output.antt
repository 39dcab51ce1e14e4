-- What is written for the bytes of a schedule.
use Rattle.std.specs.Prelude.{ℕ, ◌+◌, List, [], ◌∷◌, ◌++◌, Bool, true, false, Option, Some, None, Result, Ok, Err}
use Rattle.nop_types.specs.Configuration.{Configuration}
use Rattle.nop_types.specs.declared.header.Header.{Header}
use Rattle.nop_types.specs.Meaning.{Meaning}
use Rattle.schedule_text.specs.declared.event.Event.{Event}
use Rattle.schedule_text.specs.Cutting.{lines_of}
use Rattle.schedule_text.specs.declared.rule.Rule.{Rule}
use Rattle.schedule_text.specs.declared.rule.Rule.TheVariants as rules
use Rattle.schedule_text.specs.Rules.{rule_number, header_of, event_of}
use Rattle.transcript_text.specs.Transcript.{transcript_line, lines_text, error_line}
use Rattle.world.specs.Ending.{final_text}
use Rattle.world.specs.WorldSteps.{WorldState, Refusal, NoSuchActor, NoSuchDatagram, Forged, Happened, step, run_from, opening}

-- ---- a schedule

-- the line that is bad, the number of its rule, and at a datagram that was not sent its index and how many were
pub record BadLine : Type 0 where
  pub line : ℕ
  pub rule : ℕ
  pub index_sent : Option (ℕ × ℕ)

abbrev pub refused_line : ℕ → Refusal → BadLine
refused_line line NoSuchActor = record { line = line; rule = rule_number rules.WrongActor; index_sent = None }
refused_line line (NoSuchDatagram index sent) =
    record { line = line; rule = rule_number rules.NoSuchDatagram; index_sent = Some (index, sent) }
refused_line line Forged = record { line = line; rule = rule_number rules.Forged; index_sent = None }

abbrev pub bad_text : BadLine → List ℕ
bad_text b = error_line b.line b.rule b.index_sent

-- the events of the lines before the first bad one, and that line if there is one
pub record Schedule : Type 0 where
  pub events : List Event
  pub bad : Option BadLine

abbrev pub stops_at : BadLine → Schedule
stops_at b = record { events = []; bad = Some b }

abbrev pub event_first : Event → Schedule → Schedule
event_first e s = record { events = e ∷ s.events; bad = s.bad }

abbrev pub stepped : ℕ → Event → Result Happened Refusal → (WorldState → Schedule) → Schedule
stepped k e (Err refusal) f = stops_at (refused_line (k + 1) refusal)
stepped k e (Ok h) f = event_first e (f h.world)

module _ {S : Type 0} (m : Meaning S) where
  abbrev pub scheduled : WorldState → ℕ → Result Event Rule → (WorldState → Schedule) → Schedule
  scheduled w k (Err rule) f = stops_at (record { line = k + 1; rule = rule_number rule; index_sent = None })
  scheduled w k (Ok e) f = stepped k e (step m w e) f

  -- the schedule of the lines from here on, where `k` lines lead to this world
  abbrev pub schedule_from : Configuration → WorldState → ℕ → List (List ℕ) → Schedule
  schedule_from c w k [] = record { events = []; bad = None }
  schedule_from c w k (line ∷ lines) = scheduled w k (event_of c k line) (λ v. schedule_from c v (k + 1) lines)

-- ---- what is written

pub record Output : Type 0 where
  pub text : List ℕ
  pub bad : Option BadLine

abbrev pub then_text : List ℕ → Output → Output
then_text t o = record { text = t ++ o.text; bad = o.bad }

-- an error line, or the lines at the end of the input
abbrev pub ending : Bool → WorldState → Option BadLine → List ℕ
ending ended w (Some b) = bad_text b
ending true w None = final_text w
ending false w None = []

-- the lines of the events, and how they end
abbrev pub text_after : Bool → Option BadLine → Result Happened Refusal → List ℕ
text_after ended bad (Err refusal) = []
text_after ended bad (Ok h) = lines_text h.lines ++ ending ended h.world bad

module _ {S : Type 0} (m : Meaning S) where
  abbrev pub written : Bool → WorldState → Schedule → Output
  written ended w s = record { text = text_after ended s.bad (run_from m [] w s.events); bad = s.bad }

  abbrev pub rest : Bool → Configuration → WorldState → ℕ → List (List ℕ) → Output
  rest ended c w k lines = written ended w (schedule_from m c w k lines)

  -- line 1 begins the transcript
  abbrev pub begun : Bool → List (List ℕ) → Result Header Rule → Output
  begun ended lines (Err rule) = let b : BadLine = record { line = 1; rule = rule_number rule; index_sent = None } in
      record { text = bad_text b; bad = Some b }
  begun ended lines (Ok h) = then_text (transcript_line h.form h.config) (rest ended h.config (opening h.config) 1 lines)

  -- without any line the first one has a wrong word, once the input has ended
  abbrev pub nothing_yet : Bool → Output
  nothing_yet true = begun true [] (Err rules.WrongWord)
  nothing_yet false = record { text = []; bad = None }

  abbrev pub output_of_lines : Bool → List (List ℕ) → Output
  output_of_lines ended [] = nothing_yet ended
  output_of_lines ended (line ∷ lines) = begun ended lines (header_of line)

  -- what is written for these bytes; whether the input ends with them
  unfoldable pub output : Bool → List ℕ → Output
  output ended bytes = output_of_lines ended (lines_of ended 0 bytes)
