-- Where lines are cut.
use Rattle.std.proofs.Common.{◌≡◌, ◌≢◌, ℕ, suc, ◌+◌, ◌<◌, ◌≤◌, Bool, true, false, eqb, leb, List, [], ◌∷◌, ◌++◌, length}
use Rattle.std.proofs.Common.{refl, ap, ◌∙◌, arith, append_assoc}
use Rattle.std.proofs.lemmas.List.{append-nil, length_push}
use Rattle.std.proofs.lemmas.Bool.{le-leb, lt-leb, eq-eqb, ne_eqb}
use Rattle.line_reader.specs.Cutting.{lines_on, last_line, with_end, without_end}
use Rattle.line_reader.specs.Deciding.{HasNoEnd}

none_here : (b : ℕ) (line : List ℕ) → HasNoEnd (length (b ∷ line)) (b ∷ line) → b ≢ 10
none_here b line none = none 0 (omega arith)

none_later : (b : ℕ) (line : List ℕ) → HasNoEnd (length (b ∷ line)) (b ∷ line) → HasNoEnd (length line) line
none_later b line none = λ k below. none (suc k) (omega arith)

-- ---- where there may be more lines

module _ (most : ℕ) (ended : Bool) (before : ℕ) (fits : before < most) where
  below : leb most before ≡ false
  below = lt-leb most before fits

  at_end : (line rest : List ℕ) → lines_on most ended before line (10 ∷ rest) ≡ with_end line ∷ lines_on most ended (before + 1) [] rest
  at_end line rest = rw below refl

  goes_on : (line rest : List ℕ) (b : ℕ) → b ≢ 10 → length line < 4096
      → lines_on most ended before line (b ∷ rest) ≡ lines_on most ended before (line ++ b ∷ []) rest
  goes_on line rest b other short =
      let not_end : eqb b 10 ≡ false = ne_eqb b 10 other in
      let not_full : eqb (length line) 4096 ≡ false = ne_eqb (length line) 4096 (λ is. omega arith) in
      rw (below, not_end, not_full) refl

  too_long : (line rest : List ℕ) (b : ℕ) → b ≢ 10 → length line ≡ 4096 → lines_on most ended before line (b ∷ rest) ≡ without_end (line ++ b ∷ []) ∷ []
  too_long line rest b other full =
      let not_end : eqb b 10 ≡ false = ne_eqb b 10 other in
      let is_full : eqb (length line) 4096 ≡ true = eq-eqb (length line) 4096 full in
      rw (below, not_end, is_full) refl

  -- a line end cuts the line that stands before it
  pub cut_end : (so_far line rest : List ℕ) → HasNoEnd (length line) line → length so_far + length line ≤ 4096
      → lines_on most ended before so_far (line ++ 10 ∷ rest) ≡ with_end (so_far ++ line) ∷ lines_on most ended (before + 1) [] rest
  cut_end so_far [] rest none short = rw (append-nil so_far) (at_end so_far rest)
  cut_end so_far (b ∷ line) rest none short =
      goes_on so_far (line ++ 10 ∷ rest) b (none_here b line none) (omega arith)
      ∙ cut_end (so_far ++ b ∷ []) line rest (none_later b line none) (omega (arith, length_push so_far b))
      ∙ ap (λ (xs : List ℕ). with_end xs ∷ lines_on most ended (before + 1) [] rest) (append_assoc so_far (b ∷ []) line)

  -- a line is cut at the first byte that it may not have
  pub cut_long : (so_far line rest : List ℕ) → HasNoEnd (length line) line → length so_far ≤ 4096 → length so_far + length line ≡ 4097
      → lines_on most ended before so_far (line ++ rest) ≡ without_end (so_far ++ line) ∷ []
  cut_long so_far [] rest none short full = absurd (omega arith)
  cut_long so_far (b ∷ []) rest none short full = too_long so_far rest b (none_here b [] none) (omega arith)
  cut_long so_far (b ∷ c ∷ line) rest none short full =
      goes_on so_far (c ∷ line ++ rest) b (none_here b (c ∷ line) none) (omega arith)
      ∙ cut_long (so_far ++ b ∷ []) (c ∷ line) rest (none_later b (c ∷ line) none) (omega (arith, length_push so_far b))
      (omega (arith, length_push so_far b))
      ∙ ap (λ (xs : List ℕ). without_end xs ∷ []) (append_assoc so_far (b ∷ []) (c ∷ line))

  -- with neither there is what the end makes of it
  pub cut_last : (so_far line : List ℕ) → HasNoEnd (length line) line → length so_far + length line ≤ 4096
      → lines_on most ended before so_far line ≡ last_line ended (so_far ++ line)
  cut_last so_far [] none short = rw (append-nil so_far) refl
  cut_last so_far (b ∷ line) none short =
      goes_on so_far line b (none_here b line none) (omega arith)
      ∙ cut_last (so_far ++ b ∷ []) line (none_later b line none) (omega (arith, length_push so_far b))
      ∙ ap (last_line ended) (append_assoc so_far (b ∷ []) line)

-- the first byte past the last line that there may be
pub cut_past : (most : ℕ) (ended : Bool) (before : ℕ) (b : ℕ) (rest : List ℕ) → most ≤ before
    → lines_on most ended before [] (b ∷ rest) ≡ without_end (b ∷ []) ∷ []
cut_past most ended before b rest past =
    let above : leb most before ≡ true = le-leb most before past in
    rw above refl
