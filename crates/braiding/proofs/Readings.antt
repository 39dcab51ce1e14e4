-- What was read, line by line.
use Rattle.std.proofs.Common.{◌≡◌, ◌∙◌, ℕ, ◌+◌, ◌<◌, ◌≤◌, Bool, true, false, List, [], ◌∷◌, ◌++◌, length, take, drop, Option, Some, None, refl, sym, ap}
use Rattle.std.proofs.Common.{append_assoc, arith, length-append, length-take, subst}
use Rattle.std.specs.List.{AllByRecursion}
use Rattle.std.specs.Io.KnownBytes.{Consumes}
use Rattle.std.proofs.KnownBytes.{Consumes-nil, Consumes-trans}
use Rattle.std.proofs.lemmas.Bool.{false≢true}
use Rattle.line_reader.specs.Cutting.{Cut, lines_of}
use Rattle.line_reader.specs.Deciding.{Follows}
use Rattle.line_reader.specs.Reading.{Reading, IsFirst, TakesFrom, IsEnd, opening}
use Rattle.line_reader.specs.declared.first_line.FirstLine.{FirstLine}
use Rattle.nop_types.specs.declared.limits.TheConstants.{MAX_LINE_BYTES}
use Rattle.braiding.specs.Reading.{Advances, IsError, IsNoLine, IsTooMuch, Reads, RefusesFirst, cut_texts}
use Rattle.braiding.specs.declared.error.BraidError.{BraidError}
use Rattle.braiding.specs.declared.error.BraidError.TheVariants.{Refuted, ReadFault, WriteFault, NoMemory}
use Rattle.braiding.specs.declared.error.TheConstants.{MAX_TRACE_LINES}

pub reads_nothing : (before : Option (List ℕ)) (lines : List (List ℕ)) → lines ≡ [] → Reads before before (opening MAX_TRACE_LINES) lines
reads_nothing before lines none = rw none (record {
  all = [];
  source = Consumes-nil before;
  end = λ ended. absurd (false≢true ended);
  most = refl;
  line = refl;
  few = omega arith;
  short = tt;
  come = λ ended more follows. refl;
})

-- ---- a call that reads

ended_before : (before middle left : Option (List ℕ)) (all taken : List ℕ) → Consumes before middle all → IsEnd before middle
    → Consumes middle left taken → taken ≡ [] → IsEnd before left
ended_before None middle left all taken c e d none = tt
ended_before (Some xs) None left all taken c e d none = absurd c
ended_before (Some xs) (Some ys) None all taken c e d none = absurd d
ended_before (Some xs) (Some ys) (Some zs) all taken c e d none = sym (rw none at d) ∙ e

ended_now : (before middle left : Option (List ℕ)) (all : List ℕ) → Consumes before middle all → IsEnd middle left → IsEnd before left
ended_now None middle left all c e = tt
ended_now (Some xs) None left all c e = absurd c
ended_now (Some xs) (Some ys) left all c e = e

both_cases : (b : Bool) {P : Type 0} → (b ≡ false → P) → (b ≡ true → P) → P
both_cases true f g = g refl
both_cases false f g = f refl

nil_both : (xs ys : List ℕ) → xs ≡ [] → ys ≡ [] → xs ++ ys ≡ []
nil_both xs ys e f = rw (e, f) refl

pub reads_on : (before middle left : Option (List ℕ)) (old new : Reading) (lines : List (List ℕ)) → Reads before middle old lines
    → TakesFrom old new middle left → Reads before left new lines
reads_on before middle left old new lines reads takes =
    let grows = takes.grows in
    let taken = takes.taken in record {
      all = reads.all ++ taken;
      source = Consumes-trans before middle left reads.all taken reads.source takes.source;
      end = λ ended. both_cases old.ended
          (λ going. ended_now before middle left reads.all reads.source (takes.end going ended))
          (λ was. ended_before before middle left reads.all taken reads.source (reads.end was) takes.source (grows.after_end was).0);
      most = grows.most ∙ reads.most;
      line = grows.line ∙ reads.line;
      few = reads.few;
      short = reads.short;
      come = λ ended more follows.
          let earlier : Follows old.ended ended (taken ++ more) = record {
            nothing = λ was. nil_both taken more (grows.after_end was).0 (follows.nothing (grows.after_end was).1);
            end = λ was. follows.end (grows.after_end was).1;
          } in
          ap (λ (bytes : List ℕ). cut_texts (lines_of MAX_TRACE_LINES ended 0 bytes)) (append_assoc reads.all taken more)
          ∙ reads.come ended (taken ++ more) earlier
          ∙ ap (λ (bytes : List ℕ). lines ++ cut_texts (lines_of old.most ended old.line bytes))
          (sym (append_assoc old.pending taken more) ∙ ap (λ (bytes : List ℕ). bytes ++ more) (sym grows.pending))
          ∙ ap (λ (k : ℕ). lines ++ cut_texts (lines_of k ended old.line (new.pending ++ more))) (sym grows.most)
          ∙ ap (λ (k : ℕ). lines ++ cut_texts (lines_of new.most ended k (new.pending ++ more))) (sym grows.line);
    }

-- ---- the next line

all_with : {A : Type 0} (P : A → Type 0) (xs : List A) (x : A) → AllByRecursion P xs → P x → AllByRecursion P (xs ++ x ∷ [])
all_with P [] x h p = (p, tt)
all_with P (y ∷ ys) x h p = (h.0, all_with P ys x h.1 p)

short_text : (n : ℕ) (bytes : List ℕ) → n ≤ MAX_LINE_BYTES → length (take n bytes) ≤ MAX_LINE_BYTES
short_text n bytes l = omega (arith, length-take n bytes, l)

module _ (before left : Option (List ℕ)) (r : Reading) (lines : List (List ℕ)) (reads : Reads before left r lines) (first : FirstLine)
    (is : IsFirst r first) where
  pub line_taken : (new : Reading) (more : List (List ℕ)) → Advances r new first → more ≡ lines ++ take first.len r.pending ∷ []
      → Reads before left new more
  line_taken new all on same =
      let text = take first.len r.pending in
      let line = reads.line in
      let fits = on.fits in
      let here : r.line < r.most = rw reads.most on.fits in
      rw same (record {
        all = reads.all;
        source = reads.source;
        end = subst (λ (b : Bool). b ≡ true → IsEnd before left) (sym on.ended) reads.end;
        most = on.most ∙ reads.most;
        line = on.line ∙ omega (arith, line, length-append lines (text ∷ []));
        few = omega (arith, line, fits, length-append lines (text ∷ []));
        short = all_with (λ (l : List ℕ). length l ≤ MAX_LINE_BYTES) lines text reads.short (short_text first.len r.pending on.short);
        come = λ ended more follows.
            let earlier : Follows r.ended ended more = subst (λ (b : Bool). Follows b ended more) on.ended follows in
            reads.come ended more earlier
            ∙ ap (λ (cs : List Cut). lines ++ cut_texts cs) (is.rest here on.short ended more earlier)
            ∙ sym (append_assoc lines (text ∷ []) (cut_texts (lines_of r.most ended (r.line + 1) (drop first.end r.pending ++ more))))
            ∙ ap (λ (bytes : List ℕ). (lines ++ text ∷ []) ++ cut_texts (lines_of r.most ended (r.line + 1) (bytes ++ more))) (sym on.pending)
            ∙ ap (λ (k : ℕ). (lines ++ text ∷ []) ++ cut_texts (lines_of k ended (r.line + 1) (new.pending ++ more))) (sym on.most)
            ∙ ap (λ (k : ℕ). (lines ++ text ∷ []) ++ cut_texts (lines_of new.most ended k (new.pending ++ more))) (sym on.line);
      })

  pub refused : (e : BraidError) → RefusesFirst r first e → IsError before left e
  refused (Refuted line) h = record {
    lines = lines;
    reader = r;
    reads = reads;
    first = first;
    next = is;
    too_much = subst (λ (k : ℕ). IsTooMuch k first.len) reads.line h.1;
    number = h.0 ∙ ap (λ (k : ℕ). k + 1) reads.line;
  }
  refused NoMemory h = tt
  refused ReadFault h = absurd h
  refused WriteFault h = absurd h

pub no_line : (before left : Option (List ℕ)) (r : Reading) (lines : List (List ℕ)) (e : BraidError) → Reads before left r lines → IsNoLine r e
    → IsError before left e
no_line before left r lines ReadFault reads h = record { lines = lines; reader = r; reads = reads; none = h }
no_line before left r lines NoMemory reads h = tt
no_line before left r lines (Refuted line) reads h = absurd h
no_line before left r lines WriteFault reads h = absurd h
