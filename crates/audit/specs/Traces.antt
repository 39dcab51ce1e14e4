-- What an audit without a fault says of its input.
use Rattle.std.specs.Prelude.{◌≡◌, ◌≤◌, ◌<◌, ℕ, ⊤, List, [], ◌∷◌, length, map, true, Option, Some, None, Result, Ok, Err}
use Rattle.std.specs.Io.KnownBytes.{Appends}
use Rattle.std.specs.List.{AllByRecursion, flat_map}
use Rattle.line_reader.specs.Cutting.{Cut, lines_of}
use Rattle.nop_types.specs.Meaning.{Meaning}
use Rattle.nop_types.specs.declared.header.Header.{Header}
use Rattle.nop_types.specs.declared.limits.TheConstants.{MAX_LINE_BYTES}
use Rattle.printed_runs.specs.Printing.{IsReadAs, printed}
use Rattle.safety.specs.Safe.{SafelyPassed}
use Rattle.schedule_text.specs.Rules.{header_of}
use Rattle.schedule_text.specs.declared.event.Event.{Event}
use Rattle.trace_rows.specs.Reading.{row_of}
use Rattle.world.specs.WorldSteps.{Happened, opening, run}
use Rattle.audit_laws.specs.Audits.{Claims, Follows, Step, step_rows}
use Rattle.audit.specs.Outcome.{passed_text}
use Rattle.audit.specs.declared.error.AuditError.{AuditError}
use Rattle.audit.specs.declared.error.AuditError.TheVariants as errors
use Rattle.audit.specs.declared.limits.TheConstants.{MAX_STEPS, MAX_TRACE_LINES}

abbrev pub texts_of : List Cut → List (List ℕ)
texts_of cuts = map (λ (c : Cut). c.text) cuts

module _ {S : Type 0} (m : Meaning S) where
  -- Bytes that are a trace of steps: their lines are the first line of a schedule, and the rows of steps that follow one another from the
  -- opening of its configuration; each step is its actor's in the world of the steps before it, and takes only what was sent
  pub record IsTrace (bytes : List ℕ) : Type 0 where
    pub first : List ℕ
    pub texts : List (List ℕ)
    pub lines : texts_of (lines_of MAX_TRACE_LINES true 0 bytes) ≡ first ∷ texts
    pub short : AllByRecursion (λ text. length text ≤ MAX_LINE_BYTES) (first ∷ texts)
    pub few : length texts < MAX_TRACE_LINES
    pub header : Header
    pub opens : header_of first ≡ Ok header
    pub steps : List Step
    pub rows : map row_of texts ≡ map Some (flat_map step_rows steps)
    pub most : length steps ≤ MAX_STEPS
    pub events : List Event
    pub happened : Happened
    pub follows : Follows m (opening header.config) steps events happened

  -- The source has none left, and its bytes are a trace of so many steps. Their events are a run, which is safe; what the trace says was
  -- submitted and accepted is what the run tells, and legal of its history. The schedule of these events was written, and their number;
  -- none of its lines is bad, it is read as these events, and what a replay writes of it is the transcript of this run.
  pub record IsAudit (steps : ℕ) (bytes left : List ℕ) (before now : Option (List ℕ)) : Type 0 where
    pub all : left ≡ []
    pub trace : IsTrace bytes
    pub count : steps ≡ length trace.steps
    pub run : run m trace.header.config trace.events ≡ Ok trace.happened
    pub safely : SafelyPassed m trace.header.config trace.events trace.happened
    pub claims : Claims m trace.steps trace.happened
    pub wrote : Appends before now (passed_text trace.header trace.events)
    pub replays : IsReadAs m trace.header.form trace.header.config trace.events trace.happened
        (printed trace.header.form trace.header.config trace.events)

  -- the same of a source that is observable, or not
  abbrev pub IsAuditOf : ℕ → Option (List ℕ) → Option (List ℕ) → Option (List ℕ) → Option (List ℕ) → Type 0
  IsAuditOf steps None left before now = ⊤
  IsAuditOf steps (Some bytes) None before now = ⊥
  IsAuditOf steps (Some bytes) (Some left) before now = IsAudit steps bytes left before now

  abbrev pub IsNotRefuted : Result ℕ AuditError → Type 0
  IsNotRefuted (Err (errors.Refuted line fault)) = ⊥
  IsNotRefuted _ = ⊤

  -- a trace of steps is never refused
  abbrev pub PassesTraces : Option (List ℕ) → Result ℕ AuditError → Type 0
  PassesTraces None result = ⊤
  PassesTraces (Some bytes) result = IsTrace bytes → IsNotRefuted result
