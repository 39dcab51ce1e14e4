-- A trace, line by line: what its lines lead to, or the first that has a fault.
use Rattle.std.specs.Prelude.{ℕ, ◌+◌, List, [], ◌∷◌, length, Bool, true, false, ◌||◌, nat_le, nat_lt, if◌then◌else◌, Option, Some, None}
use Rattle.std.specs.Prelude.{Result, Ok, Err}
use Rattle.line_reader.specs.Cutting.{Cut, lines_of}
use Rattle.nop_types.specs.Meaning.{Meaning}
use Rattle.nop_types.specs.declared.header.Header.{Header}
use Rattle.nop_types.specs.declared.limits.TheConstants.{MAX_LINE_BYTES}
use Rattle.schedule_text.specs.Rules.{header_of}
use Rattle.schedule_text.specs.declared.rule.Rule.{Rule}
use Rattle.trace_rows.specs.Reading.{row_of}
use Rattle.trace_rows.specs.declared.row.Row.{Row}
use Rattle.trace_rows.specs.declared.row.Row.TheVariants.{In, Out}
use Rattle.audit_laws.specs.Audits.{SoFar, is_none, row, starts}
use Rattle.audit_laws.specs.declared.fault.Fault.{Fault}
use Rattle.audit_laws.specs.declared.fault.Fault.TheVariants.{Misspelled, Unlike}
use Rattle.audit.specs.declared.limits.TheConstants.{MAX_STEPS, MAX_TRACE_LINES}

-- before the first line, or behind it: what it says, and what the rows led to
pub data Place : Type 0 where
  First : Place
  After : Header → SoFar → Place

-- no line has a fault, or this is the first that has one
pub data Audited : Type 0 where
  Passes : Place → Audited
  Refuses : (line : ℕ) → Fault → Audited

-- a line more than there may be, or a byte more than a line may have
abbrev pub is_too_much : ℕ → List ℕ → Bool
is_too_much before text = nat_le MAX_TRACE_LINES before || nat_lt MAX_LINE_BYTES (length text)

-- a step more than there may be
abbrev pub is_past : SoFar → Row → Bool
is_past s (In name taken) = nat_le MAX_STEPS (length s.events)
is_past s (Out name gave) = false

-- the first line is that of a schedule
abbrev pub opened : Result Header Rule → Result Place Fault
opened (Err rule) = Err Misspelled
opened (Ok h) = Ok (After h (starts h.config))

abbrev pub moved : Header → Result SoFar Fault → Result Place Fault
moved h (Err fault) = Err fault
moved h (Ok s) = Ok (After h s)

abbrev pub then_rest : ℕ → Result Place Fault → (Place → Audited) → Audited
then_rest line (Err fault) f = Refuses line fault
then_rest line (Ok p) f = f p

abbrev pub missing_line : ℕ → Place → Bool → Audited
missing_line line p true = Passes p
missing_line line p false = Refuses line Unlike

-- behind the last line of the input an output may be missing, and without any line the first one
abbrev pub at_end : Bool → ℕ → Place → Audited
at_end false before p = Passes p
at_end true before First = Refuses (before + 1) Misspelled
at_end true before (After h s) = missing_line (before + 1) (After h s) (is_none s.missing)

module _ {S : Type 0} (m : Meaning S) where
  abbrev pub row_step : SoFar → Option Row → Result SoFar Fault
  row_step s None = Err Misspelled
  row_step s (Some r) = if is_past s r then Err Misspelled else row m s r

  abbrev pub text_step : Place → List ℕ → Result Place Fault
  text_step First text = opened (header_of text)
  text_step (After h s) text = moved h (row_step s (row_of text))

  -- the line behind `before` lines
  abbrev pub line_step : ℕ → Place → List ℕ → Result Place Fault
  line_step before p text = if is_too_much before text then Err Misspelled else text_step p text

  -- the lines from here on; whether the input ends with them
  abbrev pub rest : Bool → ℕ → Place → List Cut → Audited
  rest ended before p [] = at_end ended before p
  rest ended before p (cut ∷ cuts) = then_rest (before + 1) (line_step before p cut.text) (λ q. rest ended (before + 1) q cuts)

  -- of these bytes; whether the input ends with them
  unfoldable pub audit_of : Bool → List ℕ → Audited
  audit_of ended bytes = rest ended 0 First (lines_of MAX_TRACE_LINES ended 0 bytes)
