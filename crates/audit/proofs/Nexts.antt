-- The next line: taken, or refused.
use Rattle.std.proofs.Common.{◌≡◌, ◌∙◌, ℕ, ◌+◌, Bool, true, false, List, length, refl, sym, ap, subst, arith}
use Rattle.std.specs.Prelude.{Result, Ok, Err, ⊤, if◌then◌else◌}
use Rattle.std.proofs.lemmas.List.{length-take-le}
use Rattle.line_reader.specs.Reading.{IsFirst, Reading}
use Rattle.line_reader.specs.declared.first_line.FirstLine.{FirstLine}
use Rattle.nop_types.specs.Meaning.{Meaning}
use Rattle.nop_types.specs.declared.header.Header.{Header}
use Rattle.schedule_text.specs.Rules.{header_of}
use Rattle.schedule_text.specs.declared.rule.Rule.{Rule}
use Rattle.trace_rows.specs.Reading.{row_of}
use Rattle.audit_laws.specs.Audits.{SoFar}
use Rattle.audit_laws.specs.declared.fault.Fault.TheVariants.{Misspelled}
use Rattle.audit.specs.Auditing.{After, First, Place, is_too_much, line_step, moved, opened, row_step, text_step}
use Rattle.audit.specs.Steps.{Begins, IsRefused, Leads, RefusesFirst, TakesFirst, TakesNext, is_past_limits, text_in}
use Rattle.audit.specs.declared.error.AuditError.{AuditError}
use Rattle.audit.specs.declared.progress.Progress.{Progress}
use Rattle.audit.specs.declared.row_error.RowError.{RowError}
use Rattle.audit.specs.declared.row_error.RowError.TheVariants as rows

module _ {S : Type 0} (m : Meaning S) (r : Reading) (first : FirstLine) (is : IsFirst r first) where
  -- the text has as many bytes as the reader counted
  pub text_length : length (text_in r first) ≡ first.len
  text_length =
      let len = is.len in
      let end = is.end in
      length-take-le first.len r.pending (omega (arith, len, end))

  -- ---- within the limits, or past them

  limits_are : (before : ℕ) (b : Bool) → before ≡ r.line → is_past_limits before first.len ≡ b → is_too_much r.line (text_in r first) ≡ b
  limits_are before b same e =
      ap (is_past_limits r.line) text_length ∙ ap (λ (k : ℕ). is_past_limits k first.len) (sym same) ∙ e

  step_within : (before : ℕ) (p : Place) → before ≡ r.line → is_past_limits before first.len ≡ false
      → line_step m r.line p (text_in r first) ≡ text_step m p (text_in r first)
  step_within before p same e =
      ap (λ (b : Bool). if b then Err Misspelled else text_step m p (text_in r first)) (limits_are before false same e)

  pub step_past : (before : ℕ) (p : Place) → before ≡ r.line → is_past_limits before first.len ≡ true
      → line_step m r.line p (text_in r first) ≡ Err Misspelled
  step_past before p same e =
      ap (λ (b : Bool). if b then Err Misspelled else text_step m p (text_in r first)) (limits_are before true same e)

  -- ---- a line that is refused

  -- the line has this fault, or memory ran out
  abbrev pub Fails : Place → RowError → Type 0
  Fails p (rows.Faulty fault) = line_step m r.line p (text_in r first) ≡ Err fault
  Fails p rows.NoMemory = ⊤

  pub refuses : (line : ℕ) (p : Place) (e : RowError) (x : AuditError) → line ≡ r.line + 1 → IsRefused line e x → Fails p e
      → RefusesFirst m r p first x
  refuses line p (rows.Faulty fault) x at same fails = subst (RefusesFirst m r p first) (sym same) (fault, at, refl, fails)
  refuses line p rows.NoMemory x at same fails = subst (RefusesFirst m r p first) (sym same) tt

  -- the line is no first one
  abbrev pub IsNoFirst : Result Header Rule → RowError → Type 0
  IsNoFirst read (rows.Faulty fault) = (fault ≡ Misspelled) × ((rule : Rule) × (read ≡ Err rule))
  IsNoFirst read rows.NoMemory = ⊤

  -- ---- within the limits

  module _ (before : ℕ) (same : before ≡ r.line) (within : is_past_limits before first.len ≡ false) where
    pub takes_first : {H U : Type 0} (p : Progress H U) → Begins (header_of (text_in r first)) (Ok p) → TakesFirst m r first p
    takes_first p b = record {
      header = b.0;
      is = b.2;
      steps = step_within before First same within ∙ ap opened b.1;
      shows = b.3;
    }

    pub first_fails : (text : List ℕ) (e : RowError) → text ≡ text_in r first → IsNoFirst (header_of text) e → Fails First e
    first_fails text (rows.Faulty fault) are b =
        step_within before First same within ∙ ap (λ (xs : List ℕ). opened (header_of xs)) (sym are) ∙ ap opened b.1.1 ∙ ap Err (sym b.0)
    first_fails text rows.NoMemory are b = tt

    pub takes_next : {H U : Type 0} (h : Header) (s : SoFar) (p : Progress H U)
        → Leads h (row_step m s (row_of (text_in r first))) (Ok tt) p → TakesNext m h s r first p
    takes_next h s p l = record { now = l.0; steps = step_within before (After h s) same within ∙ ap (moved h) l.1; shows = l.2 }

    pub next_fails : {H U : Type 0} (h : Header) (s : SoFar) (p : Progress H U) (text : List ℕ) (e : RowError) → text ≡ text_in r first
        → Leads h (row_step m s (row_of text)) (Err e) p → Fails (After h s) e
    next_fails h s p text (rows.Faulty fault) are l =
        step_within before (After h s) same within ∙ ap (λ (xs : List ℕ). moved h (row_step m s (row_of xs))) (sym are) ∙ ap (moved h) l
    next_fails h s p text rows.NoMemory are l = tt
