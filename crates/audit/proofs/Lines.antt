-- What was read of a trace, line by line.
use Rattle.std.proofs.Common.{◌≡◌, ◌∙◌, ℕ, ◌+◌, Bool, true, false, List, [], ◌∷◌, ◌++◌, drop, Option, Some, None, refl, sym, ap}
use Rattle.std.proofs.Common.{append_assoc, append-nil, arith, subst}
use Rattle.std.specs.Prelude.{Result, Ok, Err, OnOk, IfOk, IfErr, IsErrOf}
use Rattle.std.specs.Io.KnownBytes.{Consumes}
use Rattle.std.proofs.KnownBytes.{Consumes-nil, Consumes-trans}
use Rattle.std.proofs.lemmas.Bool.{false≢true}
use Rattle.line_reader.specs.Cutting.{lines_of}
use Rattle.line_reader.specs.Deciding.{Follows, cut_of}
use Rattle.line_reader.specs.Reading.{IsEnd, IsFirst, Reaches, Reading, TakesFrom}
use Rattle.line_reader.specs.Reading as lines
use Rattle.line_reader.specs.declared.first_line.FirstLine.{FirstLine}
use Rattle.nop_types.specs.Meaning.{Meaning}
use Rattle.outside.specs.Causes.{CountsFor}
use Rattle.transcript_reader.specs.Reading.{Went}
use Rattle.audit_laws.specs.Audits.{fault_number, starts}
use Rattle.audit_laws.specs.declared.fault.Fault.{Fault}
use Rattle.audit_laws.specs.declared.fault.Fault.TheVariants.{Misspelled, Unlike}
use Rattle.audit.specs.Auditing.{After, First, Place, Refuses, at_end, audit_of, line_step, missing_line, rest, then_rest}
use Rattle.audit.specs.Steps.{Advances, IsError, IsFaulty, IsFinished, IsNoLine, IsRead, Reads, ReadsOn, RefusesFirst}
use Rattle.audit.specs.Steps.{TakesFirst, TakesNext, text_in}
use Rattle.audit.specs.declared.error.AuditError.{AuditError}
use Rattle.audit.specs.declared.error.AuditError.TheVariants as errors
use Rattle.audit.specs.declared.limits.TheConstants.{MAX_TRACE_LINES}
use Rattle.audit.specs.declared.progress.Progress.{Progress}

-- ---- the source

ends_from : (before middle left : Option (List ℕ)) (taken : List ℕ) → Consumes before middle taken → IsEnd middle left → IsEnd before left
ends_from None middle left taken c e = tt
ends_from (Some xs) None left taken c e = absurd c
ends_from (Some xs) (Some ys) left taken c e = e

no_more : (before middle left : Option (List ℕ)) (taken : List ℕ) → Consumes before middle taken → IsEnd before middle
    → Consumes middle left [] → IsEnd before left
no_more None middle left taken c e d = tt
no_more (Some xs) None left taken c e d = absurd c
no_more (Some xs) (Some ys) None taken c e d = absurd d
no_more (Some xs) (Some ys) (Some zs) taken c e d = sym d ∙ e

both_cases : (b : Bool) {P : Type 0} → (b ≡ false → P) → (b ≡ true → P) → P
both_cases true f g = g refl
both_cases false f g = f refl

went_on : (before middle left : Option (List ℕ)) (all : List ℕ) (old new : Reading) → Went before middle all old.ended
    → (takes : TakesFrom old new middle left) → Went before left (all ++ takes.taken) new.ended
went_on before middle left all old new went takes = record {
  source = Consumes-trans before middle left all takes.taken went.source takes.source;
  end = λ ended. both_cases old.ended
      (λ going. ends_from before middle left all went.source (takes.end going ended))
      (λ was. no_more before middle left all went.source (went.end was)
      (subst (Consumes middle left) (takes.grows.after_end was).0 takes.source));
}

went_nothing : (before : Option (List ℕ)) → Went before before [] false
went_nothing before = record { source = Consumes-nil before; end = λ ended. absurd (false≢true ended) }

nil_both : (xs ys : List ℕ) → xs ≡ [] → ys ≡ [] → xs ++ ys ≡ []
nil_both xs ys e f = rw (e, f) refl

no_lines : (most : ℕ) (ended : Bool) (before : ℕ) (bytes more : List ℕ) → bytes ≡ [] → more ≡ [] → lines_of most ended before (bytes ++ more) ≡ []
unfolding lines_of
no_lines most ended before bytes more e f = rw (e, f) refl

module _ {S : Type 0} (m : Meaning S) where
  -- ---- more bytes

  pub reads_grow : (before middle left : Option (List ℕ)) (old new : Reading) (p : Place) → Reads m before middle old p
      → TakesFrom old new middle left → Reads m before left new p
  reads_grow before middle left old new p reads takes =
      let grows = takes.grows in
      let taken = takes.taken in
      record {
        all = reads.all ++ taken;
        went = went_on before middle left reads.all old new reads.went takes;
        most = grows.most ∙ reads.most;
        goes = λ ended more follows.
            let earlier : Follows old.ended ended (taken ++ more) = record {
              nothing = λ was. nil_both taken more (grows.after_end was).0 (follows.nothing (grows.after_end was).1);
              end = λ was. follows.end (grows.after_end was).1;
            } in
            ap (audit_of m ended) (append_assoc reads.all taken more)
            ∙ reads.goes ended (taken ++ more) earlier
            ∙ ap (λ (xs : List ℕ). rest m ended old.line p (lines_of MAX_TRACE_LINES ended old.line xs))
            (sym (append_assoc old.pending taken more) ∙ ap (λ (xs : List ℕ). xs ++ more) (sym grows.pending))
            ∙ ap (λ (k : ℕ). rest m ended k p (lines_of MAX_TRACE_LINES ended k (new.pending ++ more))) (sym grows.line);
      }

  audits_lines : (ended : Bool) (bytes : List ℕ) → audit_of m ended bytes ≡ rest m ended 0 First (lines_of MAX_TRACE_LINES ended 0 bytes)
  unfolding audit_of
  audits_lines ended bytes = refl

  reads_nothing : (before : Option (List ℕ)) → Reads m before before (lines.opening MAX_TRACE_LINES) First
  reads_nothing before =
      record { all = []; went = went_nothing before; most = refl; goes = λ ended more follows. audits_lines ended more }

  pub reads_first : (before left : Option (List ℕ)) (old new : Reading) → old ≡ lines.opening MAX_TRACE_LINES → TakesFrom old new before left
      → Reads m before left new First
  reads_first before left old new is takes =
      reads_grow before before left old new First (subst (λ (r : Reading). Reads m before before r First) (sym is) (reads_nothing before)) takes

  -- ---- a line that is taken

  pub advanced : (before left : Option (List ℕ)) (r new : Reading) (p q : Place) (first : FirstLine) → Reads m before left r p
      → IsFirst r first → Advances r new first → line_step m r.line p (text_in r first) ≡ Ok q → Reads m before left new q
  advanced before left r new p q first reads is on taken = record {
    all = reads.all;
    went = subst (Went before left reads.all) (sym on.ended) reads.went;
    most = on.most ∙ reads.most;
    goes = λ ended more follows.
        let earlier : Follows r.ended ended more = subst (λ (b : Bool). Follows b ended more) on.ended follows in
        let here = is.rest (rw reads.most on.fits) on.short ended more earlier in
        reads.goes ended more earlier
        ∙ ap (rest m ended r.line p)
        (ap (λ (k : ℕ). lines_of k ended r.line (r.pending ++ more)) (sym reads.most) ∙ here
        ∙ ap (λ (k : ℕ). cut_of first r.pending ∷ lines_of k ended (r.line + 1) (drop first.end r.pending ++ more)) reads.most)
        ∙ ap (λ (x : Result Place Fault). then_rest (r.line + 1) x
        (λ u. rest m ended (r.line + 1) u (lines_of MAX_TRACE_LINES ended (r.line + 1) (drop first.end r.pending ++ more)))) taken
        ∙ ap (λ (k : ℕ). rest m ended k q (lines_of MAX_TRACE_LINES ended k (drop first.end r.pending ++ more))) (sym on.line)
        ∙ ap (λ (xs : List ℕ). rest m ended new.line q (lines_of MAX_TRACE_LINES ended new.line (xs ++ more))) (sym on.pending);
  }

  pub first_taken : {H U : Type 0} (before left : Option (List ℕ)) (r new : Reading) (first : FirstLine) (p : Progress H U)
      → Reads m before left r First → IsFirst r first → Advances r new first → TakesFirst m r first p → ReadsOn m before left new p
  first_taken before left r new first p reads is on takes = record {
    header = takes.header;
    is = takes.is;
    so_far = starts takes.header.config;
    shows = takes.shows;
    reads = advanced before left r new First (After takes.header (starts takes.header.config)) first reads is on takes.steps;
  }

  pub next_taken : {H U : Type 0} (before left : Option (List ℕ)) (r new : Reading) (first : FirstLine) (p q : Progress H U)
      → (on : ReadsOn m before left r p) → IsFirst r first → Advances r new first → TakesNext m on.header on.so_far r first q
      → ReadsOn m before left new q
  next_taken before left r new first p q on is goes takes = record {
    header = on.header;
    is = on.is;
    so_far = takes.now;
    shows = takes.shows;
    reads = advanced before left r new (After on.header on.so_far) (After on.header takes.now) first on.reads is goes takes.steps;
  }

  pub on_grows : {H U : Type 0} (before middle left : Option (List ℕ)) (old new : Reading) (p : Progress H U) → ReadsOn m before middle old p
      → TakesFrom old new middle left → ReadsOn m before left new p
  on_grows before middle left old new p on takes = record {
    header = on.header;
    is = on.is;
    so_far = on.so_far;
    shows = on.shows;
    reads = reads_grow before middle left old new (After on.header on.so_far) on.reads takes;
  }

  -- ---- a line that is refused

  faulty : (before left : Option (List ℕ)) (r : Reading) (p : Place) (first : FirstLine) (cause : Fault) (line fault : ℕ)
      → Reads m before left r p → IsFirst r first → line ≡ r.line + 1 → fault ≡ fault_number cause
      → line_step m r.line p (text_in r first) ≡ Err cause → IsFaulty m before left line fault
  faulty before left r p first cause line fault reads is at number fails = record {
    all = reads.all;
    ended = r.ended;
    went = reads.went;
    cause = cause;
    number = number;
    decides = λ more nothing.
        let follows : Follows r.ended true more = record { nothing = nothing; end = λ was. refl } in
        let here = is.line true more follows in
        reads.goes true more follows
        ∙ ap (rest m true r.line p) (ap (λ (k : ℕ). lines_of k true r.line (r.pending ++ more)) (sym reads.most) ∙ here.1)
        ∙ ap (λ (x : Result Place Fault). then_rest (r.line + 1) x (λ u. rest m true (r.line + 1) u here.0)) fails
        ∙ ap (λ (k : ℕ). Refuses k cause) (sym at);
  }

  pub refused : (before left : Option (List ℕ)) (r : Reading) (p : Place) (first : FirstLine) (e : AuditError) → Reads m before left r p
      → IsFirst r first → RefusesFirst m r p first e → IsError m before left e
  refused before left r p first (errors.Refuted line fault) reads is h = faulty before left r p first h.0 line fault reads is h.1 h.2 h.3
  refused before left r p first errors.ReadFault reads is h = absurd h
  refused before left r p first errors.WriteFault reads is h = absurd h
  refused before left r p first errors.NoMemory reads is h = tt

  -- ---- behind the last line

  at_last : (before left : Option (List ℕ)) (r : Reading) (p : Place) (reads : Reads m before left r p) → Reaches r None
      → (more : List ℕ) → more ≡ [] → audit_of m true (reads.all ++ more) ≡ at_end true r.line p
  at_last before left r p reads none more nothing =
      reads.goes true more (record { nothing = λ was. nothing; end = λ was. refl })
      ∙ ap (rest m true r.line p) (no_lines MAX_TRACE_LINES true r.line r.pending more none.1 nothing)

  pub missing_first : (before left : Option (List ℕ)) (r : Reading) → Reads m before left r First → Reaches r None → r.line ≡ 0
      → IsFaulty m before left 1 1
  missing_first before left r reads none at = record {
    all = reads.all;
    ended = r.ended;
    went = reads.went;
    cause = Misspelled;
    number = refl;
    decides = λ more nothing. at_last before left r First reads none more (nothing none.0) ∙ ap (λ (k : ℕ). Refuses (k + 1) Misspelled) at;
  }

  pub finished : {H U : Type 0} (before left : Option (List ℕ)) (r : Reading) (p : Progress H U) (lines : ℕ)
      (res : Result (Progress H U) AuditError) → ReadsOn m before left r p → Reaches r None → lines ≡ r.line → IsFinished p lines res
      → IsRead m before left res
  finished before left r p lines (Ok q) on none same h =
      let is = h on.header on.so_far on.shows in
      let reads = on.reads in
      record {
        all = reads.all;
        went = subst (Went before left reads.all) none.0 reads.went;
        header = on.header;
        is = on.is;
        so_far = on.so_far;
        passes = ap (audit_of m true) (sym (append-nil reads.all))
            ∙ at_last before left r (After on.header on.so_far) reads none [] refl
            ∙ ap (missing_line (r.line + 1) (After on.header on.so_far)) is.1;
        shows = is.0;
      }
  finished before left r p lines (Err (errors.Refuted line fault)) on none same h =
      let reads = on.reads in
      record {
        all = reads.all;
        ended = r.ended;
        went = reads.went;
        cause = Unlike;
        number = h.1;
        decides = λ more nothing.
            at_last before left r (After on.header on.so_far) reads none more (nothing none.0)
            ∙ ap (missing_line (r.line + 1) (After on.header on.so_far)) (h.2 on.header on.so_far on.shows)
            ∙ ap (λ (k : ℕ). Refuses k Unlike) (sym (h.0 ∙ ap (λ (k : ℕ). k + 1) same));
      }
  finished before left r p lines (Err _) on none same h = absurd h

  -- ---- no line came

  pub no_line : (before left : Option (List ℕ)) (r : Reading) (p : Place) (e : AuditError) → Reads m before left r p → IsNoLine r e
      → IsError m before left e
  no_line before left r p (errors.Refuted line fault) reads h = absurd h
  no_line before left r p errors.ReadFault reads h = record {
    all = reads.all;
    source = reads.went.source;
    place = p;
    good =
        let follows : Follows r.ended false [] = record { nothing = λ was. refl; end = λ was. sym h.0 ∙ was } in
        ap (audit_of m false) (sym (append-nil reads.all))
        ∙ reads.goes false [] follows
        ∙ ap (λ (k : ℕ). rest m false r.line p (lines_of k false r.line (r.pending ++ []))) (sym reads.most)
        ∙ ap (rest m false r.line p) h.1;
  }
  no_line before left r p errors.WriteFault reads h = absurd h
  no_line before left r p errors.NoMemory reads h = tt

-- ---- what calls answer

module _ {S H U : Type 0} (m : Meaning S) (before left : Option (List ℕ)) (r new : Reading) (first : FirstLine) (is : IsFirst r first) where
  pub first_ok : (res : Result (Progress H U) AuditError) → Reads m before left r First → OnOk res (Advances r new first)
      → IfOk res (TakesFirst m r first) → IfOk res (ReadsOn m before left new)
  first_ok (Ok p) reads on takes = first_taken m before left r new first p reads is on takes
  first_ok (Err e) reads on takes = tt

  pub first_err : (res : Result (Progress H U) AuditError) → Reads m before left r First → IfErr res (RefusesFirst m r First first)
      → IfErr res (IsError m before left)
  first_err (Ok p) reads h = tt
  first_err (Err e) reads h = refused m before left r First first e reads is h

-- no read failed, and none is told
stays : {T : Type 0} (a b : ℕ) (res : Result T AuditError) → b ≡ a → (IsErrOf res errors.ReadFault → ⊥) → CountsFor a b errors.ReadFault res
stays a b res same never = record { later = omega (arith, same); failed = λ is. absurd (never is); others = λ other. same }

pub no_fault : {S T : Type 0} (m : Meaning S) (a b : ℕ) (r : Reading) (first : FirstLine) (p : Place) (res : Result T AuditError) → b ≡ a
    → IfErr res (RefusesFirst m r p first) → CountsFor a b errors.ReadFault res
no_fault m a b r first p (Ok x) same h = stays a b (Ok x) same (λ e. absurd cc)
no_fault m a b r first p (Err (errors.Refuted line fault)) same h = stays a b (Err (errors.Refuted line fault)) same (λ e. absurd cc)
no_fault m a b r first p (Err errors.ReadFault) same h = absurd h
no_fault m a b r first p (Err errors.WriteFault) same h = absurd h
no_fault m a b r first p (Err errors.NoMemory) same h = stays a b (Err errors.NoMemory) same (λ e. absurd cc)
