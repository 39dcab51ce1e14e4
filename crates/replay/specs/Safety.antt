-- The run of a schedule is safe.
use Rattle.std.specs.Prelude.{◌≡◌, ⊤, ◌++◌, ◌∷◌, ℕ, List, true, Option, Some, None, Ok}
use Rattle.nop_types.specs.declared.header.Header.{Header}
use Rattle.nop_types.specs.Meaning.{Meaning}
use Rattle.nop_types.specs.Reads.{ReadsAreRight}
use Rattle.schedule_text.specs.declared.event.Event.{Event}
use Rattle.schedule_text.specs.Cutting.{lines_of}
use Rattle.schedule_text.specs.Rules.{header_of}
use Rattle.transcript_text.specs.Transcript.{transcript_line, lines_text}
use Rattle.world.specs.Ending.{final_text}
use Rattle.world.specs.WorldSteps.{Happened, opening, run, main_log}
use Rattle.safety.specs.Safe.{SafelyPassed}
use Rattle.replay.specs.Output.{schedule_from, output}

-- the bytes are a header and the lines of these events. What the events lead to is safe: replicas agree as far as they are synchronised,
-- and the accepted replies are those of the one history; what observers answered is what its first members leave. The text that is written
-- for the bytes has the header's form, the lines of the events, and that history
pub record RunsSafely {S : Type 0} (m : Meaning S) (bytes : List ℕ) : Type 0 where
  pub header : Header
  pub first : List ℕ
  pub rest : List (List ℕ)
  pub cut : lines_of true 0 bytes ≡ first ∷ rest
  pub read : header_of first ≡ Ok header
  pub events : List Event
  pub are : schedule_from m header.config (opening header.config) 1 rest ≡ record { events = events; bad = None }
  pub happened : Happened
  pub led : run m header.config events ≡ Ok happened
  pub safely : SafelyPassed m header.config events happened
  -- and what was read is right
  pub reads : ReadsAreRight m happened.lines (main_log happened.world)
  pub text : (output m true bytes).text
      ≡ transcript_line header.form header.config ++ (lines_text happened.lines ++ final_text happened.world)

-- the same of a source that is observable, or not
abbrev pub RunsSafelyOf : {S : Type 0} → Meaning S → Option (List ℕ) → Type 0
RunsSafelyOf m None = ⊤
RunsSafelyOf m (Some bytes) = RunsSafely m bytes
