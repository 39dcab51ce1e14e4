-- A reader behind lines that were taken.
use Rattle.std.proofs.Common.{◌≡◌, ◌∙◌, ℕ, ◌+◌, ◌<◌, ◌≤◌, Bool, true, List, [], ◌∷◌, ◌++◌, length, take, drop, refl, sym, ap}
use Rattle.std.proofs.Common.{append_assoc, append-nil, arith, length-append, length-take, subst}
use Rattle.std.specs.List.{AllByRecursion}
use Rattle.line_reader.specs.Cutting.{Cut, lines_of}
use Rattle.line_reader.specs.Deciding.{Follows, cut_of}
use Rattle.line_reader.specs.Reading.{Reading, Grows, IsFirst, opening}
use Rattle.line_reader.specs.declared.first_line.FirstLine.{FirstLine}
use Rattle.nop_types.specs.declared.limits.TheConstants.{MAX_LINE_BYTES}
use Rattle.service_words.specs.Translating.{Advances, Behind, IsShort, StartsWith}
use Rattle.service_words.specs.declared.limits.TheConstants.{MAX_TEXT_LINES}

all_with : {A : Type 0} (P : A → Type 0) (xs : List A) (x : A) → AllByRecursion P xs → P x → AllByRecursion P (xs ++ x ∷ [])
all_with P [] x h p = (p, tt)
all_with P (y ∷ ys) x h p = (h.0, all_with P ys x h.1 p)

pub behind_nothing : Behind [] [] (opening MAX_TEXT_LINES)
behind_nothing = record { most = refl; line = refl; few = omega arith; short = tt; lines = λ ended more follows. refl }

nil_both : (xs ys : List ℕ) → xs ≡ [] → ys ≡ [] → xs ++ ys ≡ []
nil_both xs ys e f = rw (e, f) refl

module _ (cuts : List Cut) (all : List ℕ) (r : Reading) (behind : Behind cuts all r) where
  pub behind_grows : (new : Reading) (taken : List ℕ) → Grows r new taken → Behind cuts (all ++ taken) new
  behind_grows new taken grows = record {
    most = grows.most ∙ behind.most;
    line = grows.line ∙ behind.line;
    few = behind.few;
    short = behind.short;
    lines = λ ended more follows.
        let before : Follows r.ended ended (taken ++ more) = record {
          nothing = λ was. nil_both taken more (grows.after_end was).0 (follows.nothing (grows.after_end was).1);
          end = λ was. follows.end (grows.after_end was).1;
        } in
        ap (lines_of MAX_TEXT_LINES ended 0) (append_assoc all taken more)
        ∙ behind.lines ended (taken ++ more) before
        ∙ ap (λ (xs : List ℕ). cuts ++ lines_of MAX_TEXT_LINES ended r.line xs)
        (sym (append_assoc r.pending taken more) ∙ ap (λ (xs : List ℕ). xs ++ more) (sym grows.pending))
        ∙ ap (λ (k : ℕ). cuts ++ lines_of MAX_TEXT_LINES ended k (new.pending ++ more)) (sym grows.line);
  }

  pub behind_advances : (new : Reading) (first : FirstLine) → IsFirst r first → Advances r new first
      → Behind (cuts ++ cut_of first r.pending ∷ []) all new
  behind_advances new first is on =
      let here : r.line < r.most = rw behind.most on.fits in
      let line = behind.line in
      let fits = on.fits in record {
        most = on.most ∙ behind.most;
        line = on.line ∙ omega (arith, line, length-append cuts (cut_of first r.pending ∷ []));
        few = omega (arith, line, fits, length-append cuts (cut_of first r.pending ∷ []));
        short = all_with IsShort cuts (cut_of first r.pending) behind.short (short_text first.len r.pending on.short);
        lines = λ ended more follows.
            let before : Follows r.ended ended more = subst (λ (b : Bool). Follows b ended more) on.ended follows in
            behind.lines ended more before
            ∙ ap (λ (cs : List Cut). cuts ++ cs)
            (ap (λ (k : ℕ). lines_of k ended r.line (r.pending ++ more)) (sym behind.most) ∙ is.rest here on.short ended more before
            ∙ ap (λ (k : ℕ). cut_of first r.pending ∷ lines_of k ended (r.line + 1) (drop first.end r.pending ++ more)) behind.most)
            ∙ sym (append_assoc cuts (cut_of first r.pending ∷ [])
            (lines_of MAX_TEXT_LINES ended (r.line + 1) (drop first.end r.pending ++ more)))
            ∙ ap (λ (k : ℕ). (cuts ++ cut_of first r.pending ∷ []) ++ lines_of MAX_TEXT_LINES ended k (drop first.end r.pending ++ more)) (sym on.line)
            ∙ ap (λ (xs : List ℕ). (cuts ++ cut_of first r.pending ∷ []) ++ lines_of MAX_TEXT_LINES ended new.line (xs ++ more)) (sym on.pending);
      }
    where
      short_text : (n : ℕ) (bytes : List ℕ) → n ≤ MAX_LINE_BYTES → length (take n bytes) ≤ MAX_LINE_BYTES
      short_text n bytes l = omega (arith, length-take n bytes, l)

  pub starts_with : (first : FirstLine) → IsFirst r first → StartsWith all r.ended (cuts ++ cut_of first r.pending ∷ [])
  starts_with first is = λ ended more follows.
      let here = is.line ended more follows in (
        here.0,
        behind.lines ended more follows
            ∙ ap (λ (cs : List Cut). cuts ++ cs)
            (ap (λ (k : ℕ). lines_of k ended r.line (r.pending ++ more)) (sym behind.most) ∙ here.1)
            ∙ sym (append_assoc cuts (cut_of first r.pending ∷ []) here.0),
      )

  pub starts_so_far : StartsWith all r.ended cuts
  starts_so_far = λ ended more follows.
      (lines_of MAX_TEXT_LINES ended r.line (r.pending ++ more), behind.lines ended more follows)

  pub all_lines : r.ended ≡ true → r.pending ≡ [] → lines_of MAX_TEXT_LINES true 0 all ≡ cuts
  unfolding lines_of
  all_lines ended none =
      let follows : Follows r.ended true [] = record { nothing = λ was. refl; end = λ was. refl } in
      ap (lines_of MAX_TEXT_LINES true 0) (sym (append-nil all))
      ∙ behind.lines true [] follows
      ∙ ap (λ (xs : List ℕ). cuts ++ lines_of MAX_TEXT_LINES true r.line (xs ++ [])) none
      ∙ append-nil cuts
