-- How an audit ends, and what it writes.
use Rattle.std.specs.Prelude.{◌≡◌, ℕ, ⊤, List, [], ◌∷◌, ◌++◌, length, codes, decimal, Bool, true, false, Option, Some, None, Result, Ok, Err}
use Rattle.std.specs.Io.KnownBytes.{Appends, Keeps}
use Rattle.nop_types.specs.Meaning.{Meaning}
use Rattle.nop_types.specs.declared.header.Header.{Header}
use Rattle.outside.specs.Prefixes.{AppendsPrefix}
use Rattle.printed_runs.specs.Printing.{LinesMean, printed}
use Rattle.schedule_text.specs.Fits.{EventsFit}
use Rattle.schedule_text.specs.declared.event.Event.{Event}
use Rattle.transcript_text.specs.LineText.{line_of}
use Rattle.audit_laws.specs.Audits.{SoFar, fault_number}
use Rattle.audit_laws.specs.declared.fault.Fault.{Fault}
use Rattle.audit.specs.Auditing.{Audited, Passes, Refuses, Place, First, After, audit_of}
use Rattle.audit.specs.declared.error.AuditError.{AuditError}
use Rattle.audit.specs.declared.error.AuditError.TheVariants as errors

-- ---- what is written

abbrev pub audited_line : ℕ → List ℕ
audited_line steps = line_of (codes "audited") (decimal steps ∷ [])

abbrev pub fault_line : ℕ → ℕ → List ℕ
fault_line line fault = line_of (codes "audit") (codes "line" ∷ decimal line ∷ codes "fault" ∷ decimal fault ∷ [])

-- the schedule of a trace without a fault, and the number of its steps
abbrev pub passed_text : Header → List Event → List ℕ
passed_text h es = printed h.form h.config es ++ audited_line (length es)

abbrev pub place_text : Place → List ℕ
place_text First = audited_line 0
place_text (After h s) = passed_text h s.events

-- what is written in the end
abbrev pub answer_text : Audited → List ℕ
answer_text (Passes p) = place_text p
answer_text (Refuses line fault) = fault_line line (fault_number fault)

-- ---- how it ends

module _ {S : Type 0} (m : Meaning S) where
  -- all bytes were taken, no line has a fault, and the schedule of their steps was written with their number; its events are in their
  -- ranges, and each line means its event
  pub record Done (steps : ℕ) (bytes left : List ℕ) (before now : Option (List ℕ)) : Type 0 where
    pub all : left ≡ []
    pub header : Header
    pub so_far : SoFar
    pub passes : audit_of m true bytes ≡ Passes (After header so_far)
    pub count : steps ≡ length so_far.events
    pub fit : EventsFit so_far.events
    pub mean : LinesMean so_far.events
    pub wrote : Appends before now (passed_text header so_far.events)

  -- The bytes taken decide the first line with a fault, whatever would follow them, and that alone was written. Where the source had
  -- ended, nothing follows.
  pub record Refuted (line fault : ℕ) (bytes left : List ℕ) (before now : Option (List ℕ)) : Type 0 where
    pub taken : List ℕ
    pub split : bytes ≡ taken ++ left
    pub ended : Bool
    pub end : ended ≡ true → left ≡ []
    pub cause : Fault
    pub number : fault ≡ fault_number cause
    pub decides : (more : List ℕ) → (ended ≡ true → more ≡ []) → audit_of m true (taken ++ more) ≡ Refuses line cause
    pub wrote : Appends before now (fault_line line fault)

  -- the bytes taken decide no line with a fault, and nothing was written
  pub record Interrupted (bytes left : List ℕ) (before now : Option (List ℕ)) : Type 0 where
    pub taken : List ℕ
    pub split : bytes ≡ taken ++ left
    pub place : Place
    pub good : audit_of m false taken ≡ Passes place
    pub unwritten : Keeps before now

  -- ---- the same of a source that is observable, or not

  abbrev pub IsDone : ℕ → Option (List ℕ) → Option (List ℕ) → Option (List ℕ) → Option (List ℕ) → Type 0
  IsDone steps None left before now = ⊤
  IsDone steps (Some bytes) None before now = ⊥
  IsDone steps (Some bytes) (Some left) before now = Done steps bytes left before now

  abbrev pub IsRefuted : ℕ → ℕ → Option (List ℕ) → Option (List ℕ) → Option (List ℕ) → Option (List ℕ) → Type 0
  IsRefuted line fault None left before now = ⊤
  IsRefuted line fault (Some bytes) None before now = ⊥
  IsRefuted line fault (Some bytes) (Some left) before now = Refuted line fault bytes left before now

  abbrev pub IsInterrupted : Option (List ℕ) → Option (List ℕ) → Option (List ℕ) → Option (List ℕ) → Type 0
  IsInterrupted None left before now = ⊤
  IsInterrupted (Some bytes) None before now = ⊥
  IsInterrupted (Some bytes) (Some left) before now = Interrupted bytes left before now

  -- a front of what is written for the whole input, and not all
  abbrev pub WrotePrefix : Option (List ℕ) → Option (List ℕ) → Option (List ℕ) → Type 0
  WrotePrefix None before now = ⊤
  WrotePrefix (Some bytes) before now = AppendsPrefix before now (answer_text (audit_of m true bytes))

  -- how an audit ended, by the bytes before it, those left, and what the sink held before and holds now
  abbrev pub AuditEnds : Option (List ℕ) → Option (List ℕ) → Option (List ℕ) → Option (List ℕ) → Result ℕ AuditError → Type 0
  AuditEnds bytes left before now (Ok steps) = IsDone steps bytes left before now
  AuditEnds bytes left before now (Err (errors.Refuted line fault)) = IsRefuted line fault bytes left before now
  AuditEnds bytes left before now (Err errors.ReadFault) = IsInterrupted bytes left before now
  AuditEnds bytes left before now (Err errors.WriteFault) = WrotePrefix bytes before now
  AuditEnds bytes left before now (Err errors.NoMemory) = WrotePrefix bytes before now
