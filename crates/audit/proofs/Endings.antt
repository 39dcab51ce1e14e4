-- What is written in the end, and which faults are told.
use Rattle.std.proofs.Common.{◌≡◌, ◌<◌, ◌≤◌, Bool, true, false, ℕ, List, [], ◌∷◌, ◌++◌, Option, refl, subst, ap, arith, length-append}
use Rattle.std.proofs.KnownBytes.{Appends-nil}
use Rattle.std.specs.Prelude.{Result, Ok, Err, codes, decimal, nat_le, nat_lt, ◌||◌}
use Rattle.std.proofs.lemmas.Bool.{leb-false, ltb-false}
use Rattle.std.specs.List.{flat_map}
use Rattle.std.specs.Result.{IsErrOf}
use Rattle.nop_types.specs.Meaning.{Meaning}
use Rattle.outside.specs.Causes.{CountsFor, CountsWhere}
use Rattle.outside.specs.Prefixes.{AppendsPrefix}
use Rattle.transcript_text.specs.LineText.{after_space}
use Rattle.audit.specs.Outcome.{audited_line}
use Rattle.audit.specs.Steps.{FailsAtNoWrite, IsError, IsFinished, IsRead, is_past_limits}
use Rattle.audit.specs.declared.limits.TheConstants.{MAX_TRACE_LINES}
use Rattle.nop_types.specs.declared.limits.TheConstants.{MAX_LINE_BYTES}
use Rattle.audit.specs.declared.error.AuditError.{AuditError}
use Rattle.audit.specs.declared.error.AuditError.TheVariants as errors
use Rattle.audit.specs.declared.progress.Progress.{Progress}

-- before the last line is written behind others, none of all these bytes are
pub unwritten : (held : Option (List ℕ)) (text : List ℕ) (steps : ℕ) → AppendsPrefix held held (text ++ audited_line steps)
unwritten held text steps =
    let fields = flat_map after_space (decimal steps ∷ []) in
    record {
      count = 0;
      below = omega (
        arith,
        length-append text (audited_line steps),
        length-append (codes "audited") (fields ++ 10 ∷ []),
        length-append fields (10 ∷ []),
      );
      appended = Appends-nil held;
    }

-- no call of a device failed, and none is told
pub stays_where : (a b : ℕ) (fact : Type 0) → b ≡ a → (fact → ⊥) → CountsWhere a b fact
stays_where a b fact same never = record { later = omega (arith, same); failed = λ is. absurd (never is); others = λ other. same }

-- it is told alike, whatever else an answer has
pub counts_as : {T U : Type 0} (a b : ℕ) (e error : AuditError) → CountsFor {T = T} a b error (Err e) → CountsFor {T = U} a b error (Err e)
counts_as a b e error c = record {
  later = c.later;
  failed = λ is. c.failed (let same : e ≡ error = cc in ap Err same);
  others = λ no. c.others (λ is. no (let same : e ≡ error = cc in ap Err same));
}

pub counts_ok : {T U : Type 0} (a b : ℕ) (x : T) (y : U) (error : AuditError) → CountsFor a b error (Ok x) → CountsFor a b error (Ok y)
counts_ok a b x y error c = record { later = c.later; failed = λ is. absurd cc; others = λ no. c.others (λ is. cc) }

pub reads_write_nothing : {S H U : Type 0} (m : Meaning S) (before left : Option (List ℕ)) (res : Result (Progress H U) AuditError)
    → IsRead m before left res → FailsAtNoWrite res
reads_write_nothing m before left (Ok p) h is = cc
reads_write_nothing m before left (Err e) h is = let same : e ≡ errors.WriteFault = cc in subst (IsError m before left) same h

pub finish_reads_nothing : {H U : Type 0} (p : Progress H U) (lines : ℕ) (res : Result (Progress H U) AuditError) (a b : ℕ) → b ≡ a
    → IsFinished p lines res → CountsFor a b errors.ReadFault res
finish_reads_nothing p lines (Ok q) a b same h = stays_where a b (IsErrOf (Ok q) errors.ReadFault) same (λ is. cc)
finish_reads_nothing p lines (Err (errors.Refuted line fault)) a b same h =
    stays_where a b (IsErrOf (Err (errors.Refuted line fault)) errors.ReadFault) same (λ is. cc)
finish_reads_nothing p lines (Err errors.ReadFault) a b same h = absurd h
finish_reads_nothing p lines (Err errors.WriteFault) a b same h = absurd h
finish_reads_nothing p lines (Err errors.NoMemory) a b same h = absurd h

-- a line that is not past the limits is within them
pub within : (before len : ℕ) → is_past_limits before len ≡ false → (before < MAX_TRACE_LINES) × (len ≤ MAX_LINE_BYTES)
within before len e = on (nat_le MAX_TRACE_LINES before) (nat_lt MAX_LINE_BYTES len) refl refl e
  where
    on : (a b : Bool) → nat_le MAX_TRACE_LINES before ≡ a → nat_lt MAX_LINE_BYTES len ≡ b → (a || b) ≡ false
        → (before < MAX_TRACE_LINES) × (len ≤ MAX_LINE_BYTES)
    on false false p q f = (leb-false MAX_TRACE_LINES before p, ltb-false MAX_LINE_BYTES len q)
    on true b p q f = absurd cc
    on false true p q f = absurd cc
