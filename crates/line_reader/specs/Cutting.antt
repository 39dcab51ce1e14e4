-- The lines of bytes, as far as they are decided.
use Rattle.std.specs.Prelude.{ℕ, ◌+◌, List, [], ◌∷◌, ◌++◌, length, Bool, true, false, nat_le, ◌==◌, if◌then◌else◌}
use Rattle.nop_types.specs.declared.limits.TheConstants.{MAX_LINE_BYTES}

-- a line without its end, and whether the end was there
pub record Cut : Type 0 where
  pub text : List ℕ
  pub closed : Bool

abbrev pub with_end : List ℕ → Cut
with_end text = record { text = text; closed = true }

abbrev pub without_end : List ℕ → Cut
without_end text = record { text = text; closed = false }

-- bytes after the last line end are a last line, once the input has ended
abbrev pub last_line : Bool → List ℕ → List Cut
last_line ended [] = []
last_line true (b ∷ bs) = without_end (b ∷ bs) ∷ []
last_line false (b ∷ bs) = []

-- The lines, where at most `most` may be, `before` were cut before, and this is the line so far. A line is decided by its end, by a byte
-- more than a line may have, or by the first byte of a line more than there may be; after these two nothing is read.
abbrev pub lines_on : ℕ → Bool → ℕ → List ℕ → List ℕ → List Cut
lines_on most ended before line [] = last_line ended line
lines_on most ended before line (b ∷ bs) =
    if nat_le most before then without_end (line ++ b ∷ []) ∷ []
    else if b == 10 then with_end line ∷ lines_on most ended (before + 1) [] bs
    else if length line == MAX_LINE_BYTES then without_end (line ++ b ∷ []) ∷ []
    else lines_on most ended before (line ++ b ∷ []) bs

-- the lines of the bytes, where `before` lines were cut before; whether the input ends with these bytes
unfoldable pub lines_of : ℕ → Bool → ℕ → List ℕ → List Cut
lines_of most ended before bytes = lines_on most ended before [] bytes
