-- The lines of a text, and the words of a line.
use Rattle.std.specs.Prelude.{ℕ, List, [], length, Bool, filter, not, ◌==◌, ◌||◌, Option, Some, None}
use Rattle.std.specs.List.{before_first, slice_split}

abbrev pub is_line_end : ℕ → Bool
is_line_end b = b == 10

-- one more than there are line ends
abbrev pub lines_of : List ℕ → List (List ℕ)
lines_of text = slice_split is_line_end text

-- a space, a tab or a carriage return
abbrev pub is_blank : ℕ → Bool
is_blank b = (b == 32) || ((b == 9) || (b == 13))

-- what stands between blanks has bytes
abbrev pub has_bytes : List ℕ → Bool
has_bytes piece = not (length piece == 0)

abbrev pub words_in : List (List ℕ) → List (List ℕ)
words_in pieces = filter has_bytes pieces

abbrev pub is_comment : ℕ → Bool
is_comment b = b == 35

-- the words between blanks, as far as the first `#`
abbrev pub words_of : List ℕ → List (List ℕ)
words_of line = words_in (slice_split is_blank (before_first is_comment line))

-- the lines of what follows a line end, where there is one
abbrev pub other_lines : Option (List ℕ) → List (List ℕ)
other_lines None = []
other_lines (Some rest) = lines_of rest

-- the pieces of what follows a blank, where there is one
abbrev pub other_pieces : Option (List ℕ) → List (List ℕ)
other_pieces None = []
other_pieces (Some rest) = slice_split is_blank rest

-- the words of what is left of a line
abbrev pub other_words : Option (List ℕ) → List (List ℕ)
other_words rest = words_in (other_pieces rest)
