-- Which line is the first.
use Rattle.std.proofs.Common.{◌≡◌, ℕ, ◌+◌, ◌<◌, ◌≤◌, le_refl, Bool, true, false, List, [], ◌∷◌}
use Rattle.std.proofs.Common.{◌++◌, length, get_or, take, drop, refl, sym, ap, ◌∙◌, arith, append_assoc}
use Rattle.std.proofs.lemmas.List.{append-nil, take-append-drop, drop_more, length-take-le, get_or-take}
use Rattle.std.proofs.lemmas.List.{drop_all, take_all}
use Rattle.std.proofs.lemmas.Bool.{lt-ltb, le-ltb, false≢true}
use Rattle.std.specs.Prelude.{nat_lt}
use Rattle.line_reader.specs.Cutting.{Cut, lines_on, lines_of, last_line, with_end, without_end}
use Rattle.line_reader.specs.Deciding.{HasNoEnd, IsFirstEnd, IsFirstLine, IsUndecided}
use Rattle.line_reader.proofs.Cuts.{cut_end, cut_long, cut_last, cut_past}

-- a front without a line end, as a list of its own
none_in_prefix : (count : ℕ) (bytes : List ℕ) → count ≤ length bytes → HasNoEnd count bytes
    → HasNoEnd (length (take count bytes)) (take count bytes)
none_in_prefix count bytes within none = λ k below.
    let short : k < count = omega (arith, length-take-le count bytes within) in
    λ is. none k short (sym (get_or-take count bytes k 0 short) ∙ is)

-- the bytes up to a place, the one there, and the others
split_at : (bytes more : List ℕ) (place : ℕ) → place < length bytes → get_or bytes place 0 ≡ 10 → bytes ++ more ≡ take place bytes
    ++ 10 ∷ (drop (place + 1) bytes ++ more)
split_at bytes more place within is =
    ap (λ (xs : List ℕ). xs ++ more)
    (sym (take-append-drop place bytes)
    ∙ ap (λ (xs : List ℕ). take place bytes ++ xs) (drop_more bytes place 0 within ∙ ap (λ (b : ℕ). b ∷ drop (place + 1) bytes) is))
    ∙ append_assoc (take place bytes) (10 ∷ drop (place + 1) bytes) more

prefix_and_rest : (bytes more : List ℕ) (count : ℕ) → bytes ++ more ≡ take count bytes ++ (drop count bytes ++ more)
prefix_and_rest bytes more count =
    ap (λ (xs : List ℕ). xs ++ more) (sym (take-append-drop count bytes)) ∙ append_assoc (take count bytes) (drop count bytes) more

-- nothing is made of bytes without an end
nothing_yet : (line : List ℕ) → last_line false line ≡ []
nothing_yet [] = refl
nothing_yet (b ∷ line) = refl

one_line : (line : List ℕ) → 0 < length line → last_line true line ≡ without_end line ∷ []
one_line [] some = absurd (omega arith)
one_line (b ∷ line) some = refl

-- of no bytes
pub no_lines : (most : ℕ) (ended : Bool) (before : ℕ) (bytes more : List ℕ) → bytes ≡ [] → more ≡ [] → lines_of most ended before (bytes ++ more) ≡ []
unfolding lines_of
no_lines most ended before bytes more none nothing = rw (none, nothing) refl

-- the byte past the last line that there may be
pub past_last : (most before : ℕ) (was_ended : Bool) (bytes : List ℕ) → most ≤ before → 0 < length bytes
    → IsFirstLine most before was_ended bytes (record { len = 1; end = 1 })
unfolding lines_of
past_last most before was_ended [] past some = absurd (omega arith)
past_last most before was_ended (b ∷ bytes) past some = record {
  len = le_refl 1;
  end = some;
  whole = λ closed. absurd cc;
  line = λ ended more follows. ([], cut_past most ended before b (bytes ++ more) past);
  rest = λ fits short ended more follows. absurd (omega arith);
}

pub undecided_empty : (most before : ℕ) (was_ended : Bool) → IsUndecided most before was_ended []
unfolding lines_of
undecided_empty most before was_ended = record {
  none = refl;
  searched = record { within = le_refl 0; short = omega arith; no_end = λ k below. absurd (omega arith) };
  at_end = λ e. refl;
}

module _ (most before : ℕ) (was_ended : Bool) (bytes : List ℕ) (fits : before < most) where
  lines_by_end : (place : ℕ) → IsFirstEnd bytes place → (ended : Bool) (more : List ℕ)
      → lines_of most ended before (bytes ++ more) ≡ with_end (take place bytes) ∷ lines_of most ended (before + 1) (drop (place + 1) bytes ++ more)
  unfolding lines_of
  lines_by_end place at ended more =
      ap (lines_on most ended before []) (split_at bytes more place at.within at.end)
      ∙ cut_end most ended before fits [] (take place bytes) (drop (place + 1) bytes ++ more)
      (none_in_prefix place bytes (omega (arith, at.within)) at.no_end)
      (omega (arith, at.short, length-take-le place bytes (omega (arith, at.within))))

  is_closed : (place : ℕ) (rest : List Cut) → with_end (take place bytes) ∷ rest
      ≡ record { text = take place bytes; closed = nat_lt place (place + 1) } ∷ rest
  is_closed place rest = let e : nat_lt place (place + 1) ≡ true = lt-ltb place (place + 1) (omega arith) in rw e refl

  is_open : (count : ℕ) (rest : List Cut) → without_end (take count bytes) ∷ rest
      ≡ record { text = take count bytes; closed = nat_lt count count } ∷ rest
  is_open count rest = let e : nat_lt count count ≡ false = le-ltb count count (le_refl count) in rw e refl

  -- a line with its end
  pub by_end : (place : ℕ) → IsFirstEnd bytes place → IsFirstLine most before was_ended bytes (record { len = place; end = place + 1 })
  by_end place at = record {
    len = omega arith;
    end = omega (arith, at.within);
    whole = λ closed. sym (append-nil bytes) ∙ split_at bytes [] place at.within at.end
        ∙ ap (λ (xs : List ℕ). take place bytes ++ 10 ∷ xs) (append-nil (drop (place + 1) bytes));
    line = λ ended more follows. (
      lines_of most ended (before + 1) (drop (place + 1) bytes ++ more),
      lines_by_end place at ended more ∙ is_closed place (lines_of most ended (before + 1) (drop (place + 1) bytes ++ more)),
    );
    rest = λ fits' short ended more follows.
        lines_by_end place at ended more ∙ is_closed place (lines_of most ended (before + 1) (drop (place + 1) bytes ++ more));
  }

  -- a line that is too long
  pub by_length : (count : ℕ) → count ≡ 4097 → HasNoEnd count bytes → count ≤ length bytes
      → IsFirstLine most before was_ended bytes (record { len = count; end = count })
  unfolding lines_of
  by_length count is none long = record {
    len = le_refl count;
    end = long;
    whole = λ closed. absurd (false≢true (sym (le-ltb count count (le_refl count)) ∙ closed));
    line = λ ended more follows. (
      [],
      ap (lines_on most ended before []) (prefix_and_rest bytes more count)
          ∙ cut_long most ended before fits [] (take count bytes) (drop count bytes ++ more) (none_in_prefix count bytes long none)
          (omega arith) (omega (arith, length-take-le count bytes long))
          ∙ is_open count [],
    );
    rest = λ fits' short ended more follows. absurd (omega arith);
  }

  module _ (none : HasNoEnd (length bytes) bytes) (short : length bytes ≤ 4096) where
    lines_by_last : 0 < length bytes → (ended : Bool) (more : List ℕ) → more ≡ [] → ended ≡ true
        → lines_of most ended before (bytes ++ more) ≡ without_end bytes ∷ []
    unfolding lines_of
    lines_by_last some ended more nothing is =
        rw (nothing, is, append-nil bytes) (cut_last most true before fits [] bytes none (omega arith) ∙ one_line bytes some)

    -- the last line, without an end
    pub by_last : (count : ℕ) → count ≡ length bytes → 0 < count → was_ended ≡ true
        → IsFirstLine most before was_ended bytes (record { len = count; end = count })
    by_last count is some was =
        let whole : bytes ≡ take count bytes = sym (take_all count bytes (omega arith)) in
        record {
          len = le_refl count;
          end = omega arith;
          whole = λ closed. absurd (false≢true (sym (le-ltb count count (le_refl count)) ∙ closed));
          line = λ ended more follows. (
            [],
            lines_by_last (omega arith) ended more (follows.nothing was) (follows.end was)
                ∙ ap (λ (line : List ℕ). without_end line ∷ []) whole
                ∙ is_open count [],
          );
          rest = λ fits' short' ended more follows.
              lines_by_last (omega arith) ended more (follows.nothing was) (follows.end was)
              ∙ ap (λ (line : List ℕ). without_end line ∷ []) whole
              ∙ ap (λ (lines : List Cut). without_end (take count bytes) ∷ lines)
              (sym (no_lines most ended (before + 1) (drop count bytes) more (drop_all count bytes (omega arith)) (follows.nothing was)))
              ∙ is_open count (lines_of most ended (before + 1) (drop count bytes ++ more));
        }

    -- none
    pub undecided : (was_ended ≡ true → bytes ≡ []) → IsUndecided most before was_ended bytes
    unfolding lines_of
    undecided at_end = record {
      none = cut_last most false before fits [] bytes none (omega arith) ∙ nothing_yet bytes;
      searched = record { within = le_refl (length bytes); short = short; no_end = none };
      at_end = at_end;
    }
