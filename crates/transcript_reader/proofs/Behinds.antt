-- A reader behind lines that were taken.
use Rattle.std.proofs.Common.{◌≡◌, ◌∙◌, ℕ, ◌+◌, Bool, true, List, [], ◌∷◌, ◌++◌, map, take, drop, refl, sym, ap}
use Rattle.std.proofs.Common.{append_assoc, append-nil, arith, length-append, subst}
use Rattle.std.specs.List.{flat_map}
use Rattle.line_reader.specs.Cutting.{Cut, with_end, lines_of}
use Rattle.line_reader.specs.Deciding.{Follows, cut_of}
use Rattle.line_reader.specs.Reading.{Reading, Grows, IsFirst, opening}
use Rattle.line_reader.specs.declared.first_line.FirstLine.{FirstLine}
use Rattle.transcript_reader.specs.Reading.{Advances, Behind, StartsWith, whole}
use Rattle.transcript_reader.specs.declared.limits.TheConstants.{MAX_TRANSCRIPT_LINES}

pub map_with : {A B : Type 0} (f : A → B) (xs : List A) (x : A) → map f (xs ++ x ∷ []) ≡ map f xs ++ f x ∷ []
map_with f [] x = refl
map_with f (y ∷ xs) x = ap (λ ys. f y ∷ ys) (map_with f xs x)

bytes_with : (texts : List (List ℕ)) (text : List ℕ) → flat_map whole (texts ++ text ∷ []) ≡ flat_map whole texts ++ whole text
bytes_with [] text = append-nil (whole text)
bytes_with (t ∷ texts) text =
    ap (λ (xs : List ℕ). whole t ++ xs) (bytes_with texts text) ∙ sym (append_assoc (whole t) (flat_map whole texts) (whole text))

pub behind_nothing : Behind [] [] (opening MAX_TRANSCRIPT_LINES)
behind_nothing = record { most = refl; line = refl; bytes = refl; lines = λ ended more follows. refl }

nil_both : (xs ys : List ℕ) → xs ≡ [] → ys ≡ [] → xs ++ ys ≡ []
nil_both xs ys e f = rw (e, f) refl

module _ (texts : List (List ℕ)) (all : List ℕ) (r : Reading) (behind : Behind texts all r) where
  pub behind_grows : (new : Reading) (taken : List ℕ) → Grows r new taken → Behind texts (all ++ taken) new
  behind_grows new taken grows = record {
    most = grows.most ∙ behind.most;
    line = grows.line ∙ behind.line;
    bytes = ap (λ (xs : List ℕ). xs ++ taken) behind.bytes ∙ append_assoc (flat_map whole texts) r.pending taken
        ∙ ap (λ (xs : List ℕ). flat_map whole texts ++ xs) (sym grows.pending);
    lines = λ ended more follows.
        let before : Follows r.ended ended (taken ++ more) = record {
          nothing = λ was. nil_both taken more (grows.after_end was).0 (follows.nothing (grows.after_end was).1);
          end = λ was. follows.end (grows.after_end was).1;
        } in
        ap (lines_of MAX_TRANSCRIPT_LINES ended 0) (append_assoc all taken more)
        ∙ behind.lines ended (taken ++ more) before
        ∙ ap (λ (xs : List ℕ). map with_end texts ++ lines_of MAX_TRANSCRIPT_LINES ended r.line xs)
        (sym (append_assoc r.pending taken more) ∙ ap (λ (xs : List ℕ). xs ++ more) (sym grows.pending))
        ∙ ap (λ (k : ℕ). map with_end texts ++ lines_of MAX_TRANSCRIPT_LINES ended k (new.pending ++ more)) (sym grows.line);
  }

  pub behind_advances : (new : Reading) (first : FirstLine) → IsFirst r first → Advances r new first
      → Behind (texts ++ take first.len r.pending ∷ []) all new
  behind_advances new first is on = record {
    most = on.most ∙ behind.most;
    line = on.line ∙ (let line = behind.line in omega (arith, length-append texts (take first.len r.pending ∷ [])));
    bytes = behind.bytes ∙ ap (λ (xs : List ℕ). flat_map whole texts ++ xs) (is.whole on.closed)
        ∙ ap (λ (xs : List ℕ). flat_map whole texts ++ xs) (sym (append_assoc (take first.len r.pending) (10 ∷ []) (drop first.end r.pending)))
        ∙ sym (append_assoc (flat_map whole texts) (whole (take first.len r.pending)) (drop first.end r.pending))
        ∙ ap (λ (xs : List ℕ). xs ++ drop first.end r.pending) (sym (bytes_with texts (take first.len r.pending)))
        ∙ ap (λ (xs : List ℕ). flat_map whole (texts ++ take first.len r.pending ∷ []) ++ xs) (sym on.pending);
    lines = λ ended more follows.
        let before : Follows r.ended ended more = subst (λ (b : Bool). Follows b ended more) on.ended follows in
        let here = is.rest (rw behind.most on.fits) on.short ended more before in
        let cut : cut_of first r.pending ≡ with_end (take first.len r.pending) =
        ap (λ (b : Bool). let c : Cut = record { text = take first.len r.pending; closed = b } in c) on.closed in
        behind.lines ended more before
        ∙ ap (λ (cuts : List Cut). map with_end texts ++ cuts)
        (ap (λ (k : ℕ). lines_of k ended r.line (r.pending ++ more)) (sym behind.most) ∙ here
        ∙ ap (λ (k : ℕ). cut_of first r.pending ∷ lines_of k ended (r.line + 1) (drop first.end r.pending ++ more)) behind.most)
        ∙ ap (λ (c : Cut). map with_end texts ++ c ∷ lines_of MAX_TRANSCRIPT_LINES ended (r.line + 1) (drop first.end r.pending ++ more)) cut
        ∙ sym (append_assoc (map with_end texts) (with_end (take first.len r.pending) ∷ [])
        (lines_of MAX_TRANSCRIPT_LINES ended (r.line + 1) (drop first.end r.pending ++ more)))
        ∙ ap (λ (cuts : List Cut). cuts ++ lines_of MAX_TRANSCRIPT_LINES ended (r.line + 1) (drop first.end r.pending ++ more))
        (sym (map_with with_end texts (take first.len r.pending)))
        ∙ ap (λ (k : ℕ). map with_end (texts ++ take first.len r.pending ∷ []) ++ lines_of MAX_TRANSCRIPT_LINES ended k (drop first.end r.pending ++ more)) (sym on.line)
        ∙ ap (λ (xs : List ℕ). map with_end (texts ++ take first.len r.pending ∷ []) ++ lines_of MAX_TRANSCRIPT_LINES ended new.line (xs ++ more)) (sym on.pending);
  }

  pub starts_with : (first : FirstLine) → IsFirst r first → StartsWith all r.ended (map with_end texts ++ cut_of first r.pending ∷ [])
  starts_with first is = λ ended more follows.
      let here = is.line ended more follows in (
        here.0,
        behind.lines ended more follows
            ∙ ap (λ (cuts : List Cut). map with_end texts ++ cuts)
            (ap (λ (k : ℕ). lines_of k ended r.line (r.pending ++ more)) (sym behind.most) ∙ here.1)
            ∙ sym (append_assoc (map with_end texts) (cut_of first r.pending ∷ []) here.0),
      )

  pub all_lines : r.ended ≡ true → r.pending ≡ [] → lines_of MAX_TRANSCRIPT_LINES true 0 all ≡ map with_end texts
  unfolding lines_of
  all_lines ended none =
      let follows : Follows r.ended true [] = record { nothing = λ was. refl; end = λ was. refl } in
      ap (lines_of MAX_TRANSCRIPT_LINES true 0) (sym (append-nil all))
      ∙ behind.lines true [] follows
      ∙ ap (λ (xs : List ℕ). map with_end texts ++ lines_of MAX_TRANSCRIPT_LINES true r.line (xs ++ [])) none
      ∙ append-nil (map with_end texts)
