-- How an audit ends, from what was read and what was written.
use Rattle.std.proofs.Common.{◌≡◌, ◌∙◌, ℕ, true, List, [], ◌++◌, length, Option, Some, None, refl, sym, ap, subst, append-nil}
use Rattle.std.specs.Prelude.{Result, Ok, Err, ◌≢◌, IsErrOf}
use Rattle.std.specs.Io.KnownBytes.{Appends, Keeps}
use Rattle.nop_types.specs.Meaning.{Meaning}
use Rattle.outside.specs.Causes.{CountsFor}
use Rattle.outside.specs.Prefixes.{AppendsPrefix}
use Rattle.replay.proofs.Prefixes.{prefix_nil, some_right}
use Rattle.printed_runs.specs.Printing.{printed}
use Rattle.audit_laws.specs.Audits.{fault_number}
use Rattle.audit.specs.Auditing.{After, Audited, First, Passes, Place, Refuses, audit_of}
use Rattle.audit.specs.Outcome.{AuditEnds, WrotePrefix, answer_text, audited_line, fault_line, passed_text, place_text}
use Rattle.audit.specs.Steps.{Concludes, IsFaulty, IsPassed, IsRead, IsStopped, WritesFault, WritesPassed}
use Rattle.audit.specs.declared.error.AuditError.{AuditError}
use Rattle.audit.specs.declared.error.AuditError.TheVariants as errors
use Rattle.audit.specs.declared.progress.Progress.{Progress}
use Rattle.audit.proofs.Endings.{counts_as}

-- ---- something is written in each case

audited_some : (n : ℕ) → audited_line n ≢ []
audited_some n = λ e. cc

fault_some : (line fault : ℕ) → fault_line line fault ≢ []
fault_some line fault = λ e. cc

place_some : (p : Place) → place_text p ≢ []
place_some First = audited_some 0
place_some (After h s) = some_right (printed h.form h.config s.events) (audited_line (length s.events)) (audited_some (length s.events))

answer_some : (a : Audited) → answer_text a ≢ []
answer_some (Passes p) = place_some p
answer_some (Refuses line fault) = fault_some line (fault_number fault)

appends_kept : (before now : Option (List ℕ)) (text : List ℕ) → Keeps before now → AppendsPrefix before before text → AppendsPrefix before now text
appends_kept None now text kept p = record { count = p.count; below = p.below; appended = tt }
appends_kept (Some xs) None text kept p = absurd kept
appends_kept (Some xs) (Some ys) text kept p = subst (λ (zs : List ℕ). AppendsPrefix (Some xs) (Some zs) text) (sym kept) p

pub keeps_same : (held : Option (List ℕ)) → Keeps held held
keeps_same None = tt
keeps_same (Some xs) = refl

module _ {S : Type 0} (m : Meaning S) where
  -- ---- of a source that is not observable nothing is said

  unknown : (left before now : Option (List ℕ)) (x : Result ℕ AuditError) → AuditEnds m None left before now x
  unknown left before now (Ok n) = tt
  unknown left before now (Err (errors.Refuted line fault)) = tt
  unknown left before now (Err errors.ReadFault) = tt
  unknown left before now (Err errors.WriteFault) = tt
  unknown left before now (Err errors.NoMemory) = tt

  -- ---- where nothing was to be written

  pub unwritten : (bytes held : Option (List ℕ)) → WrotePrefix m bytes held held
  unwritten None held = tt
  unwritten (Some bytes) held = prefix_nil held (answer_text (audit_of m true bytes)) (answer_some (audit_of m true bytes))

  starved : (bytes before now : Option (List ℕ)) → Keeps before now → WrotePrefix m bytes before now
  starved None before now kept = tt
  starved (Some bytes) before now kept = appends_kept before now (answer_text (audit_of m true bytes)) kept (unwritten (Some bytes) before)

  -- ---- a trace without a fault

  module _ {H U : Type 0} (p : Progress H U) (bytes left : List ℕ) (before now : Option (List ℕ)) (passed : IsPassed m (Some bytes) (Some left) p) where
    nothing_left : left ≡ []
    nothing_left = passed.went.end refl

    all_bytes : passed.all ≡ bytes
    all_bytes = sym (passed.went.source ∙ ap (λ (xs : List ℕ). passed.all ++ xs) nothing_left ∙ append-nil passed.all)

    passes : audit_of m true bytes ≡ Passes (After passed.header passed.so_far)
    passes = ap (audit_of m true) (sym all_bytes) ∙ passed.passes

    text_is : p.text.items ++ audited_line p.steps ≡ passed_text passed.header passed.so_far.events
    text_is =
        let s = passed.shows in
        ap (λ (xs : List ℕ). xs ++ audited_line p.steps) s.text
        ∙ ap (λ (n : ℕ). printed passed.header.form passed.header.config passed.so_far.events ++ audited_line n) s.steps

    front : AppendsPrefix before now (p.text.items ++ audited_line p.steps) → AppendsPrefix before now (answer_text (audit_of m true bytes))
    front f = subst (AppendsPrefix before now) (text_is ∙ ap answer_text (sym passes)) f

    wrote_passed : (x : Result ℕ AuditError) → WritesPassed before now p.text.items p.steps x → AuditEnds m (Some bytes) (Some left) before now x
    wrote_passed (Ok n) w = record {
      all = nothing_left;
      header = passed.header;
      so_far = passed.so_far;
      passes = passes;
      count = w.0 ∙ passed.shows.steps;
      fit = passed.shows.fit;
      mean = passed.shows.mean;
      wrote = subst (Appends before now) text_is w.1;
    }
    wrote_passed (Err errors.WriteFault) w = front w
    wrote_passed (Err errors.NoMemory) w = front w
    wrote_passed (Err (errors.Refuted line fault)) w = absurd w
    wrote_passed (Err errors.ReadFault) w = absurd w

  -- ---- a line with a fault

  module _ (line fault : ℕ) (bytes left : List ℕ) (before now : Option (List ℕ)) (f : IsFaulty m (Some bytes) (Some left) line fault) where
    ends_at : audit_of m true bytes ≡ Refuses line f.cause
    ends_at = ap (audit_of m true) f.went.source ∙ f.decides left f.went.end

    fault_text : fault_line line fault ≡ answer_text (audit_of m true bytes)
    fault_text = ap (fault_line line) f.number ∙ ap answer_text (sym ends_at)

    wrote_fault : (e : AuditError) → WritesFault before now line fault e → AuditEnds m (Some bytes) (Some left) before now (Err e)
    wrote_fault (errors.Refuted k n) w = record {
      taken = f.all;
      split = f.went.source;
      ended = f.ended;
      end = f.went.end;
      cause = f.cause;
      number = w.1 ∙ f.number;
      decides = λ more nothing. f.decides more nothing ∙ ap (λ (j : ℕ). Refuses j f.cause) (sym w.0);
      wrote = rw (w.0, w.1) w.2;
    }
    wrote_fault errors.ReadFault w = absurd w
    wrote_fault errors.WriteFault w = subst (AppendsPrefix before now) fault_text w
    wrote_fault errors.NoMemory w = subst (AppendsPrefix before now) fault_text w

  stopped : (bytes left : List ℕ) (before now : Option (List ℕ)) → IsStopped m (Some bytes) (Some left) → Keeps before now
      → AuditEnds m (Some bytes) (Some left) before now (Err errors.ReadFault)
  stopped bytes left before now s kept = record { taken = s.all; split = s.source; place = s.place; good = s.good; unwritten = kept }

  -- ---- all

  ends_known : {H U : Type 0} (bytes left : List ℕ) (before now : Option (List ℕ)) (answer : Result (Progress H U) AuditError)
      (x : Result ℕ AuditError) → IsRead m (Some bytes) (Some left) answer → Concludes answer before now x
      → AuditEnds m (Some bytes) (Some left) before now x
  ends_known bytes left before now (Ok p) x read w = wrote_passed p bytes left before now read x w
  ends_known bytes left before now (Err (errors.Refuted line fault)) (Ok n) read w = absurd w
  ends_known bytes left before now (Err (errors.Refuted line fault)) (Err e) read w = wrote_fault line fault bytes left before now read e w
  ends_known bytes left before now (Err errors.ReadFault) x read w = rw w.0 (stopped bytes left before now read w.1)
  ends_known bytes left before now (Err errors.WriteFault) x read w = absurd read
  ends_known bytes left before now (Err errors.NoMemory) x read w = rw w.0 (starved (Some bytes) before now w.1)

  -- what was observable stays so
  lost : {H U : Type 0} (bytes : List ℕ) (before now : Option (List ℕ)) (answer : Result (Progress H U) AuditError)
      (x : Result ℕ AuditError) → IsRead m (Some bytes) None answer → Concludes answer before now x
      → AuditEnds m (Some bytes) None before now x
  lost bytes before now (Ok p) x read w = absurd read.went.source
  lost bytes before now (Err (errors.Refuted line fault)) x read w = absurd read.went.source
  lost bytes before now (Err errors.ReadFault) x read w = absurd read.source
  lost bytes before now (Err errors.WriteFault) x read w = absurd read
  lost bytes before now (Err errors.NoMemory) x read w = rw w.0 (starved (Some bytes) before now w.1)

  pub audit_ends : {H U : Type 0} (bytes left before now : Option (List ℕ)) (answer : Result (Progress H U) AuditError)
      (x : Result ℕ AuditError) → IsRead m bytes left answer → Concludes answer before now x → AuditEnds m bytes left before now x
  audit_ends None left before now answer x read w = unknown left before now x
  audit_ends (Some bytes) None before now answer x read w = lost bytes before now answer x read w
  audit_ends (Some bytes) (Some left) before now answer x read w = ends_known bytes left before now answer x read w

-- ---- who tells a fault of the source

pub tells_read : {H U : Type 0} (a b : ℕ) (before now : Option (List ℕ)) (answer : Result (Progress H U) AuditError) (x : Result ℕ AuditError)
    → CountsFor a b errors.ReadFault answer → Concludes answer before now x → CountsFor a b errors.ReadFault x
tells_read a b before now (Err errors.ReadFault) x c w = rw w.0 (counts_as a b errors.ReadFault errors.ReadFault c)
tells_read a b before now (Err errors.WriteFault) x c w = rw w.0 (counts_as a b errors.WriteFault errors.ReadFault c)
tells_read a b before now (Err errors.NoMemory) x c w = rw w.0 (counts_as a b errors.NoMemory errors.ReadFault c)
tells_read a b before now (Ok p) x c w = record {
  later = c.later;
  failed = λ is. absurd (not_passed x w is);
  others = λ other. c.others (λ is. cc);
}
  where
    not_passed : (y : Result ℕ AuditError) → WritesPassed before now p.text.items p.steps y → IsErrOf y errors.ReadFault → ⊥
    not_passed y v e = subst (WritesPassed before now p.text.items p.steps) e v
tells_read {H = H} {U = U} a b before now (Err (errors.Refuted line fault)) x c w = record {
  later = c.later;
  failed = λ is. absurd (not_fault x w is);
  others = λ other. c.others (λ is. cc);
}
  where
    not_fault : (y : Result ℕ AuditError) → Concludes {H = H} {U = U} (Err (errors.Refuted line fault)) before now y → IsErrOf y errors.ReadFault → ⊥
    not_fault (Ok n) v e = v
    not_fault (Err d) v e = let same : d ≡ errors.ReadFault = cc in subst (WritesFault before now line fault) same v
