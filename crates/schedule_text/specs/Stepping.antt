-- The steps of a reader on the way to an answer.
use Rattle.std.specs.Prelude.{◌≡◌, ◌≢◌, ℕ, ◌≤◌, ◌↔◌, ◌⊎◌, List, [], ◌++◌, Bool, true, false, Option, Some, None, Result, Ok, Err}
use Rattle.std.specs.Prelude.{IsNone, IsTrue, IfSome}
use Rattle.nop_types.specs.declared.limits.TheConstants.{MAX_LINES}
use Rattle.nop_types.specs.Headers.{is_header}
use Rattle.nop_types.specs.declared.header.Header.{Header}
use Rattle.schedule_text.specs.declared.event.Event.{Event}
use Rattle.line_reader.specs.Deciding.{IsFirstLine}
use Rattle.line_reader.specs.Reading as cut
use Rattle.line_reader.specs.declared.first_line.FirstLine.{FirstLine}
use Rattle.schedule_text.specs.declared.next_error.NextError.{NextError}
use Rattle.schedule_text.specs.declared.next_error.NextError.TheVariants.{NoMemory}
use Rattle.schedule_text.specs.Reading.{Reading, MayFollow, IsTurn, Takes, lines_before, turn_of}

-- what a reader keeps: the lines that a schedule may have, and a header within its limits from line 1 on
pub record IsReader (lines : cut.Reading) (header : Option Header) : Type 0 where
  pub limit : lines.most ≡ MAX_LINES
  pub most : lines.line ≤ MAX_LINES
  pub opened : IsNone header ↔ (lines.line ≡ 0)
  pub within : IfSome header (λ h. IsTrue (is_header h))

abbrev pub reading : Option Header → cut.Reading → Reading
reading header lines = record { header = header; line = lines.line; pending = lines.pending; ended = lines.ended }

-- a step that went well leaves what comes next as it was, as NoMemory does
abbrev pub after_step : {A : Type 0} → Result A NextError → Result (Option Event) NextError
after_step (Ok x) = Err NoMemory
after_step (Err e) = Err e

-- there are bytes that a call took from a source, whether the source is observable or not
unfoldable pub TakesFrom : Reading → Reading → Option (List ℕ) → Option (List ℕ) → Result (Option Event) NextError → Type 0
TakesFrom old new None after answer = (taken : List ℕ) × Takes old new taken [] answer
TakesFrom old new (Some before) None answer = ⊥
TakesFrom old new (Some before) (Some left) answer = (taken : List ℕ) × (before ≡ taken ++ left) × Takes old new taken left answer

-- a step without the source
pub record Answers (old new : Reading) (answer : Result (Option Event) NextError) : Type 0 where
  pub ended : new.ended ≡ old.ended
  pub turn : (ended : Bool) (more : List ℕ) → MayFollow new ended more → IsTurn new ended more answer (turn_of old ended more)

abbrev pub IsFirst : Reading → FirstLine → Type 0
IsFirst r first = IsFirstLine MAX_LINES r.line r.ended r.pending first

-- the first line or the end is there, so that nothing has to be read
abbrev pub NeedsNoRead : Reading → Type 0
NeedsNoRead r = (r.ended ≡ true) ⊎ (lines_before r false [] ≢ [])

-- the first line, or the end
abbrev pub Reaches : Reading → Option FirstLine → Type 0
Reaches r None = (r.ended ≡ true) × (r.pending ≡ [])
Reaches r (Some first) = IsFirst r first
