-- Which line of some bytes is decided first.
use Rattle.std.specs.Prelude.{◌≡◌, ◌≢◌, ℕ, ◌+◌, ◌<◌, ◌≤◌, min, List, [], ◌∷◌, ◌++◌, length, take, drop, slice_index, Bool, true, false, nat_lt}
use Rattle.nop_types.specs.declared.limits.TheConstants.{MAX_LINE_BYTES}
use Rattle.line_reader.specs.declared.first_line.FirstLine.{FirstLine}
use Rattle.line_reader.specs.Cutting.{Cut, lines_of}

-- no line ends in the first `count` bytes
abbrev pub HasNoEnd : ℕ → List ℕ → Type 0
HasNoEnd count bytes = (k : ℕ) → k < count → slice_index bytes k ≢ 10

-- the first `count` bytes were searched for a line end
pub record IsSearched (count : ℕ) (bytes : List ℕ) : Type 0 where
  pub within : count ≤ length bytes
  pub short : count ≤ MAX_LINE_BYTES
  pub no_end : HasNoEnd count bytes

-- the first line end stands here, and the line before it is not too long
pub record IsFirstEnd (bytes : List ℕ) (place : ℕ) : Type 0 where
  pub within : place < length bytes
  pub short : place ≤ MAX_LINE_BYTES
  pub no_end : HasNoEnd place bytes
  pub end : slice_index bytes place ≡ 10

-- as many bytes as a line that is too long has, or all
abbrev pub reach : List ℕ → ℕ
reach bytes = min (length bytes) (MAX_LINE_BYTES + 1)

-- what may follow the bytes of a source: after its end nothing
pub record Follows (was_ended ended : Bool) (more : List ℕ) : Type 0 where
  pub nothing : was_ended ≡ true → more ≡ []
  pub end : was_ended ≡ true → ended ≡ true

abbrev pub is_closed : FirstLine → Bool
is_closed first = nat_lt first.len first.end

-- the line that lies there
abbrev pub cut_of : FirstLine → List ℕ → Cut
cut_of first bytes = record { text = take first.len bytes; closed = is_closed first }

-- The first line of the bytes behind `before` lines, whatever follows them. Behind one that is not too long stand the lines of the bytes
-- after it.
pub record IsFirstLine (most before : ℕ) (was_ended : Bool) (bytes : List ℕ) (first : FirstLine) : Type 0 where
  pub len : first.len ≤ first.end
  pub end : first.end ≤ length bytes
  pub whole : is_closed first ≡ true → bytes ≡ take first.len bytes ++ 10 ∷ drop first.end bytes
  pub line : (ended : Bool) (more : List ℕ) → Follows was_ended ended more → (rest : List Cut)
      × (lines_of most ended before (bytes ++ more) ≡ cut_of first bytes ∷ rest)
  pub rest : before < most → first.len ≤ MAX_LINE_BYTES → (ended : Bool) (more : List ℕ) → Follows was_ended ended more
      → lines_of most ended before (bytes ++ more) ≡ cut_of first bytes ∷ lines_of most ended (before + 1) (drop first.end bytes ++ more)

-- no line of the bytes is decided
pub record IsUndecided (most before : ℕ) (was_ended : Bool) (bytes : List ℕ) : Type 0 where
  pub none : lines_of most false before bytes ≡ []
  pub searched : IsSearched (length bytes) bytes
  pub at_end : was_ended ≡ true → bytes ≡ []
