-- What the code of an audit keeps and answers, step by step.
use Rattle.std.specs.Prelude.{◌≡◌, ◌⊎◌, ◌<◌, ◌≤◌, ◌+◌, ℕ, ⊤, List, [], ◌∷◌, ◌++◌, length, drop, take, Bool, true, false, ◌||◌, nat_le, nat_lt, Option, Some, None, Result, Ok, Err}
use Rattle.std.specs.Io.KnownBytes.{Appends, Consumes, Keeps}
use Rattle.std.specs.List.{list_all}
use Rattle.std.specs.Result.{IsErrOf}
use Rattle.line_reader.specs.Cutting.{lines_of}
use Rattle.line_reader.specs.Deciding.{Follows}
use Rattle.line_reader.specs.Reading.{Reading, lines_before}
use Rattle.line_reader.specs.declared.first_line.FirstLine.{FirstLine}
use Rattle.nop_types.specs.Headers.{is_header}
use Rattle.nop_types.specs.Lines.{Line, Dead}
use Rattle.nop_types.specs.Meaning.{Meaning}
use Rattle.nop_types.specs.declared.header.Header.{Header}
use Rattle.nop_types.specs.declared.limits.TheConstants.{MAX_LINE_BYTES}
use Rattle.nop_types.specs.declared.output.Actor.{Actor}
use Rattle.nop_types.specs.declared.output.Out.{Out}
use Rattle.network.specs.Network.{lines_from}
use Rattle.outside.specs.Prefixes.{AppendsPrefix}
use Rattle.printed_runs.specs.Printing.{LinesMean, printed}
use Rattle.schedule_text.specs.Fits.{EventsFit}
use Rattle.schedule_text.specs.declared.event.Event.{Event}
use Rattle.schedule_text.specs.declared.rule.Rule.{Rule}
use Rattle.transcript_reader.specs.Reading.{Went}
use Rattle.world.specs.Untrimmed.{has_line}
use Rattle.audit_laws.specs.Audits.{SoFar, fault_number, is_none, starts}
use Rattle.audit_laws.specs.declared.fault.Fault.{Fault}
use Rattle.audit_laws.specs.declared.fault.Fault.TheVariants.{Misspelled}
use Rattle.audit.specs.Auditing.{After, First, Passes, Place, Refuses, audit_of, line_step, rest}
use Rattle.audit.specs.Outcome.{audited_line, fault_line}
use Rattle.audit.specs.declared.error.AuditError.{AuditError}
use Rattle.audit.specs.declared.error.AuditError.TheVariants as errors
use Rattle.audit.specs.declared.limits.TheConstants.{MAX_TRACE_LINES}
use Rattle.audit.specs.declared.missing.Missing.{Missing}
use Rattle.audit.specs.declared.progress.Progress.{Progress}
use Rattle.audit.specs.declared.row_error.RowError.{RowError}
use Rattle.audit.specs.declared.row_error.RowError.TheVariants as rows

-- ---- the outputs that are missing

-- the outputs from a place on, told as lines from some index on
pub record AreFrom (a : Actor) (outs : List Out) (came : ℕ) (ls : List Line) : Type 0 where
  pub index : ℕ
  pub are : ls ≡ lines_from a index (drop came outs)
  pub have_lines : list_all has_line outs ≡ true

-- or the line of an actor that had crashed
abbrev pub AreOf : Actor → Option (List Out) → ℕ → List Line → Type 0
AreOf a None came ls = ls ≡ Dead a ∷ []
AreOf a (Some outs) came ls = AreFrom a outs came ls

abbrev pub AreMissing : Actor → Missing → List Line → Type 0
AreMissing a m ls = AreOf a m.gave m.came ls

-- an output comes next
pub record ComesNext (a : Actor) (m : Missing) (out : Out) (ls : List Line) : Type 0 where
  pub outs : List Out
  pub gave : m.gave ≡ Some outs
  pub index : ℕ
  pub are : ls ≡ lines_from a index (out ∷ drop (m.came + 1) outs)
  pub has : has_line out ≡ true
  pub have_lines : list_all has_line outs ≡ true

-- no output comes: nothing is missing, or the line of an actor that had crashed
abbrev pub NoneComes : Actor → List Line → Type 0
NoneComes a ls = (ls ≡ []) ⊎ (ls ≡ Dead a ∷ [])

-- ---- the rows so far

-- the world, what is missing, how many steps there were, and the schedule of their events
pub record Shows {H U : Type 0} (h : Header) (s : SoFar) (p : Progress H U) : Type 0 where
  pub world : p.world.state ≡ s.world
  pub missing : AreMissing s.actor p.missing s.missing
  pub actor : p.actor ≡ s.actor
  pub steps : p.steps ≡ length s.events
  pub text : p.text.items ≡ printed h.form h.config s.events
  pub fit : EventsFit s.events
  pub mean : LinesMean s.events

-- a row was taken, or has this fault
abbrev pub Leads : {H U : Type 0} → Header → Result SoFar Fault → Result (Unit {0}) RowError → Progress H U → Type 0
Leads h r (Ok x) p = (t : SoFar) × (r ≡ Ok t) × Shows h t p
Leads h r (Err (rows.Faulty fault)) p = r ≡ Err fault
Leads h r (Err rows.NoMemory) p = ⊤

-- the event of an input, or why it has none
abbrev pub IsEvent : Result Event RowError → Result Event Fault → Type 0
IsEvent (Ok e) r = r ≡ Ok e
IsEvent (Err (rows.Faulty fault)) r = r ≡ Err fault
IsEvent (Err rows.NoMemory) r = ⊤

-- what the first line says, or that it is none
abbrev pub IsOpened : Result Header Rule → Result Header RowError → Type 0
IsOpened r (Ok h) = (r ≡ Ok h) × (is_header h ≡ true)
IsOpened r (Err (rows.Faulty fault)) = (fault ≡ Misspelled) × ((rule : Rule) × (r ≡ Err rule))
IsOpened r (Err rows.NoMemory) = ⊤

-- ---- the lines so far

-- a line was taken
pub record Advances (old new : Reading) (first : FirstLine) : Type 0 where
  pub fits : old.line < MAX_TRACE_LINES
  pub short : first.len ≤ MAX_LINE_BYTES
  pub most : new.most ≡ old.most
  pub line : new.line ≡ old.line + 1
  pub pending : new.pending ≡ drop first.end old.pending
  pub ended : new.ended ≡ old.ended

-- the text of the line that comes next
abbrev pub text_in : Reading → FirstLine → List ℕ
text_in r first = take first.len r.pending

module _ {S : Type 0} (m : Meaning S) where
  -- the line that comes next has this fault, or memory ran out
  abbrev pub RefusesFirst : Reading → Place → FirstLine → AuditError → Type 0
  RefusesFirst r p first (errors.Refuted line fault) =
      (cause : Fault) × (line ≡ r.line + 1) × (fault ≡ fault_number cause) × (line_step m r.line p (text_in r first) ≡ Err cause)
  RefusesFirst r p first errors.ReadFault = ⊥
  RefusesFirst r p first errors.WriteFault = ⊥
  RefusesFirst r p first errors.NoMemory = ⊤

  -- the first line was taken
  pub record TakesFirst {H U : Type 0} (r : Reading) (first : FirstLine) (p : Progress H U) : Type 0 where
    pub header : Header
    pub is : is_header header ≡ true
    pub steps : line_step m r.line First (text_in r first) ≡ Ok (After header (starts header.config))
    pub shows : Shows header (starts header.config) p

  -- a later line was taken
  pub record TakesNext {H U : Type 0} (h : Header) (s : SoFar) (r : Reading) (first : FirstLine) (p : Progress H U) : Type 0 where
    pub now : SoFar
    pub steps : line_step m r.line (After h s) (text_in r first) ≡ Ok (After h now)
    pub shows : Shows h now p

  abbrev pub TakesNextIf : {H U : Type 0} → Progress H U → Reading → FirstLine → Progress H U → Type 0
  TakesNextIf old r first new = (h : Header) (s : SoFar) → Shows h s old → TakesNext h s r first new

  abbrev pub RefusesNextIf : {H U : Type 0} → Progress H U → Reading → FirstLine → AuditError → Type 0
  RefusesNextIf old r first e = (h : Header) (s : SoFar) → Shows h s old → RefusesFirst r (After h s) first e

  -- bytes went from the source, and all lines of them that were taken led here, whatever follows
  pub record Reads (before left : Option (List ℕ)) (r : Reading) (p : Place) : Type 0 where
    pub all : List ℕ
    pub went : Went before left all r.ended
    pub most : r.most ≡ MAX_TRACE_LINES
    pub goes : (ended : Bool) (more : List ℕ) → Follows r.ended ended more
        → audit_of m ended (all ++ more) ≡ rest m ended r.line p (lines_of MAX_TRACE_LINES ended r.line (r.pending ++ more))

  -- what was read of a trace behind its first line
  pub record ReadsOn {H U : Type 0} (before left : Option (List ℕ)) (r : Reading) (p : Progress H U) : Type 0 where
    pub header : Header
    pub is : is_header header ≡ true
    pub so_far : SoFar
    pub shows : Shows header so_far p
    pub reads : Reads before left r (After header so_far)

  -- ---- all lines

  -- the source has none left, and no line of its bytes has a fault
  pub record IsPassed {H U : Type 0} (before left : Option (List ℕ)) (p : Progress H U) : Type 0 where
    pub all : List ℕ
    pub went : Went before left all true
    pub header : Header
    pub is : is_header header ≡ true
    pub so_far : SoFar
    pub passes : audit_of m true all ≡ Passes (After header so_far)
    pub shows : Shows header so_far p

  pub record IsFaulty (before left : Option (List ℕ)) (line fault : ℕ) : Type 0 where
    pub all : List ℕ
    pub ended : Bool
    pub went : Went before left all ended
    pub cause : Fault
    pub number : fault ≡ fault_number cause
    pub decides : (more : List ℕ) → (ended ≡ true → more ≡ []) → audit_of m true (all ++ more) ≡ Refuses line cause

  pub record IsStopped (before left : Option (List ℕ)) : Type 0 where
    pub all : List ℕ
    pub source : Consumes before left all
    pub place : Place
    pub good : audit_of m false all ≡ Passes place

  abbrev pub IsError : Option (List ℕ) → Option (List ℕ) → AuditError → Type 0
  IsError before left (errors.Refuted line fault) = IsFaulty before left line fault
  IsError before left errors.ReadFault = IsStopped before left
  IsError before left errors.WriteFault = ⊥
  IsError before left errors.NoMemory = ⊤

  abbrev pub IsRead : {H U : Type 0} → Option (List ℕ) → Option (List ℕ) → Result (Progress H U) AuditError → Type 0
  IsRead before left (Ok p) = IsPassed before left p
  IsRead before left (Err e) = IsError before left e

-- a call that found no line refuses nothing, and at a fault none was left that is decided
abbrev pub IsNoLine : Reading → AuditError → Type 0
IsNoLine r (errors.Refuted line fault) = ⊥
IsNoLine r errors.ReadFault = (r.ended ≡ false) × (lines_before r false [] ≡ [])
IsNoLine r errors.WriteFault = ⊥
IsNoLine r errors.NoMemory = ⊤

-- behind the last line, where so many were taken
abbrev pub IsFinished : {H U : Type 0} → Progress H U → ℕ → Result (Progress H U) AuditError → Type 0
IsFinished old lines (Ok p) = (h : Header) (s : SoFar) → Shows h s old → Shows h s p × (is_none s.missing ≡ true)
IsFinished old lines (Err (errors.Refuted line fault)) =
    (line ≡ lines + 1) × (fault ≡ 4) × ((h : Header) (s : SoFar) → Shows h s old → is_none s.missing ≡ false)
IsFinished old lines (Err _) = ⊥

-- ---- what is written

-- no write failed yet
abbrev pub FailsAtNoWrite : {T : Type 0} → Result T AuditError → Type 0
FailsAtNoWrite result = IsErrOf result errors.WriteFault → ⊥

-- all was written, or not all
abbrev pub Writes : Option (List ℕ) → Option (List ℕ) → List ℕ → Result (Unit {0}) AuditError → Type 0
Writes before now text (Ok x) = Appends before now text
Writes before now text (Err errors.WriteFault) = AppendsPrefix before now text
Writes before now text (Err errors.NoMemory) = AppendsPrefix before now text
Writes before now text (Err _) = ⊥

-- ---- single answers

-- the answer for a line that is not taken
abbrev pub IsRefused : ℕ → RowError → AuditError → Type 0
IsRefused line (rows.Faulty fault) e = e ≡ errors.Refuted line (fault_number fault)
IsRefused line rows.NoMemory e = e ≡ errors.NoMemory

abbrev pub is_past_limits : ℕ → ℕ → Bool
is_past_limits before len = nat_le MAX_TRACE_LINES before || nat_lt MAX_LINE_BYTES len

-- the rows start from what the first line says
abbrev pub Begins : {H U : Type 0} → Result Header Rule → Result (Progress H U) RowError → Type 0
Begins r (Ok p) = (h : Header) × (r ≡ Ok h) × (is_header h ≡ true) × Shows h (starts h.config) p
Begins r (Err (rows.Faulty fault)) = (fault ≡ Misspelled) × ((rule : Rule) × (r ≡ Err rule))
Begins r (Err rows.NoMemory) = ⊤

-- ---- what was written in the end

-- the text and the number of steps were written, or not all of it
abbrev pub WritesPassed : Option (List ℕ) → Option (List ℕ) → List ℕ → ℕ → Result ℕ AuditError → Type 0
WritesPassed before now text steps (Ok n) = (n ≡ steps) × Appends before now (text ++ audited_line steps)
WritesPassed before now text steps (Err errors.WriteFault) = AppendsPrefix before now (text ++ audited_line steps)
WritesPassed before now text steps (Err errors.NoMemory) = AppendsPrefix before now (text ++ audited_line steps)
WritesPassed before now text steps (Err _) = ⊥

-- the line and its fault were written and are the answer, or not all of it was written
abbrev pub WritesFault : Option (List ℕ) → Option (List ℕ) → ℕ → ℕ → AuditError → Type 0
WritesFault before now line fault (errors.Refuted k n) = (k ≡ line) × (n ≡ fault) × Appends before now (fault_line line fault)
WritesFault before now line fault errors.ReadFault = ⊥
WritesFault before now line fault errors.WriteFault = AppendsPrefix before now (fault_line line fault)
WritesFault before now line fault errors.NoMemory = AppendsPrefix before now (fault_line line fault)

-- where nothing is to be written, nothing is
abbrev pub Concludes : {H U : Type 0} → Result (Progress H U) AuditError → Option (List ℕ) → Option (List ℕ) → Result ℕ AuditError → Type 0
Concludes (Ok p) before now result = WritesPassed before now p.text.items p.steps result
Concludes (Err (errors.Refuted line fault)) before now (Ok n) = ⊥
Concludes (Err (errors.Refuted line fault)) before now (Err e) = WritesFault before now line fault e
Concludes (Err e) before now result = (result ≡ Err e) × Keeps before now
