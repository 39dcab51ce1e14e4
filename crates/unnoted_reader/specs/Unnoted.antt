-- Lines that accept a result which nobody noted.
use Rattle.std.specs.Prelude.{◌≡◌, ℕ, ◌-◌, ◌==◌, ◌&&◌, Bool, true, false, List, [], ◌∷◌, ◌++◌, Some, codes, cond, length, map, min, slice_get}
use Rattle.std.specs.Prelude.{slice_index, slice_set, take}
use Rattle.line_fields.specs.Fields.{is_text}
use Rattle.transcript_reader.specs.Transcripts.{said_by}
use Rattle.transcript_rows.specs.declared.row.Row.{Row}

-- whether the text begins as a line that accepts, and ends in `?`
abbrev pub is_unnoted : List ℕ → Bool
is_unnoted text =
    is_text (codes "accept ") (take (min (length text) 7) text) && (slice_index text (length text - 1) == 63)

-- the text with `-`, the result of no byte, in place of this `?`
abbrev pub with_dash : List ℕ → List ℕ
with_dash text = slice_set text (length text - 1) 45

-- the text as it is read
abbrev pub as_read : List ℕ → List ℕ
as_read text = cond (is_unnoted text) (with_dash text) text

-- of each claim of these rows, whether its text has such a `?`
abbrev pub marks_of : List (List ℕ) → List Row → List Bool
marks_of [] rows = []
marks_of (text ∷ texts) [] = []
marks_of (text ∷ texts) (row ∷ rows) = map (λ l. is_unnoted text) (said_by row) ++ marks_of texts rows

-- ---- where all results were noted

abbrev pub AllNoted : List (List ℕ) → Type 0
AllNoted texts = (k : ℕ) (text : List ℕ) → slice_get texts k ≡ Some text → is_unnoted text ≡ false

abbrev pub AllUnmarked : List Bool → Type 0
AllUnmarked marks = (k : ℕ) → slice_get marks k ≡ Some true → ⊥
