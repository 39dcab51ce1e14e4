-- How far a replay has come.
use Rattle.std.specs.Prelude.{◌≡◌, ℕ, ◌+◌, List, [], ◌++◌, Bool, true, Option, Some, None, Result, Ok, Err, ⊤}
use Rattle.std.specs.Io.KnownBytes.{Appends}
use Rattle.nop_types.specs.Configuration.{Configuration}
use Rattle.nop_types.specs.declared.header.Header.{Header}
use Rattle.nop_types.specs.Meaning.{Meaning}
use Rattle.schedule_text.specs.declared.event.Event.{Event}
use Rattle.schedule_text.specs.declared.next_error.NextError.{NextError}
use Rattle.schedule_text.specs.declared.next_error.NextError.TheVariants as nexts
use Rattle.transcript_text.specs.Transcript.{lines_text}
use Rattle.schedule_text.specs.Reading.{Reading, Turn, Next, Gives, Refuses, Ends, MayFollow, lines_before, turn_of}
use Rattle.world.specs.WorldSteps.{WorldState, Refusal, Happened, step}
use Rattle.schedule_text.specs.Stepping.{NeedsNoRead}
use Rattle.replay.specs.Outcome.{IsInterrupted}
use Rattle.replay.specs.Output.{BadLine, Output, bad_text, refused_line, ending, then_text, rest, output}
use Rattle.replay.specs.Steps.{bad_line}

-- what the source had left and what the sink held where a replay began
pub record Start : Type 0 where
  pub bytes : Option (List ℕ)
  pub held : Option (List ℕ)

abbrev pub begins : Option (List ℕ) → Option (List ℕ) → Start
begins left held = record { bytes = left; held = held }

abbrev pub refused : BadLine → Output
refused b = record { text = bad_text b; bad = Some b }

module _ {S : Type 0} (m : Meaning S) where
  -- what is written after an event, which stood in this line
  abbrev pub after_step : Bool → Configuration → ℕ → List (List ℕ) → Result Happened Refusal → Output
  after_step ended c line lines (Err refusal) = refused (refused_line line refusal)
  after_step ended c line lines (Ok h) = then_text (lines_text h.lines) (rest m ended c h.world line lines)

  -- what is written after a turn of the reader
  abbrev pub after_next : Bool → Configuration → WorldState → ℕ → List (List ℕ) → Next → Output
  after_next ended c w line lines (Gives e) = after_step ended c line lines (step m w e)
  after_next ended c w line lines (Refuses rule) = refused (bad_line (line + 1) rule)
  after_next ended c w line lines Ends = record { text = ending ended w None; bad = None }

  abbrev pub after_turn : Bool → Configuration → WorldState → Turn → Output
  after_turn ended c w t = after_next ended c w t.line t.rest t.next

  -- what is written after an answer of the reader
  abbrev pub after_answer : Bool → List ℕ → Configuration → WorldState → Reading → Result (Option Event) NextError → Output
  after_answer ended more c w r (Ok (Some e)) = after_step ended c r.line (lines_before r ended more) (step m w e)
  after_answer ended more c w r (Ok None) = record { text = ending ended w None; bad = None }
  after_answer ended more c w r (Err (nexts.BadLine line rule)) = refused (bad_line line rule)
  after_answer ended more c w r (Err nexts.ReadFault) = after_turn ended c w (turn_of r ended more)
  after_answer ended more c w r (Err nexts.NoMemory) = after_turn ended c w (turn_of r ended more)

  -- these bytes were taken, this much was written and is gathered, and what is written then, whatever bytes follow
  pub record Progress (bytes left : List ℕ) (before now : Option (List ℕ)) (pending : List ℕ) (r : Reading)
      (follows : Bool → List ℕ → Output) : Type 0 where
    pub taken : List ℕ
    pub split : bytes ≡ taken ++ left
    pub end : r.ended ≡ true → left ≡ []
    pub written : List ℕ
    pub wrote : Appends before now written
    pub goes : (ended : Bool) (more : List ℕ) → MayFollow r ended more
        → output m ended (taken ++ more) ≡ then_text (written ++ pending) (follows ended more)

  -- between two turns
  pub record Going (bytes left : List ℕ) (before now : Option (List ℕ)) (pending : List ℕ) (r : Reading) (h : Header)
      (w : WorldState) : Type 0 where
    pub header : r.header ≡ Some h
    pub progress : Progress bytes left before now pending r (λ ended more. rest m ended h.config w r.line (lines_before r ended more))

  abbrev pub GoingOf : Option (List ℕ) → Option (List ℕ) → Option (List ℕ) → Option (List ℕ) → List ℕ → Reading → Header
      → WorldState → Type 0
  GoingOf None left before now pending r h w = ⊤
  GoingOf (Some bytes) None before now pending r h w = ⊥
  GoingOf (Some bytes) (Some left) before now pending r h w = Going bytes left before now pending r h w

  -- the same since a start, with what line 1 says
  pub record GoesOn (start : Start) (left now : Option (List ℕ)) (pending : List ℕ) (r : Reading) (w : WorldState) : Type 0 where
    pub header : Header
    pub going : GoingOf start.bytes left start.held now pending r header w

  -- The source may be asked: where it will be, no bad line is decided by the bytes that were taken since the start, and what was written
  -- since then is the transcript line with the lines of all lines that they decide.
  unfoldable pub MayRead : Start → Reading → Option (List ℕ) → Option (List ℕ) → Type 0
  MayRead start r left now = ¬ NeedsNoRead r → IsInterrupted m start.bytes left start.held now
