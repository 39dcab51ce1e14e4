-- Which field of a line is hexadecimal, by the line's first fields. Fields count from 0.
use Rattle.std.specs.Prelude.{ℕ, List, Bool, false, Option, Some, None, ◌==◌, ◌&&◌, codes, is_some, length, nat_lt, slice_get}
use Rattle.std.specs.Prelude.{if◌then◌else◌}
use Rattle.line_fields.specs.Fields.{is_text, number_of}
use Rattle.service_words.specs.declared.row.Row.{Row}
use Rattle.service_words.specs.declared.row.Kind.{Kind}
use Rattle.service_words.specs.declared.row.Kind.TheVariants.{Op, Answer, Key}

abbrev pub is_field : List ℕ → Option (List ℕ) → Bool
is_field word None = false
is_field word (Some field) = is_text word field

-- the field at this place is this word
abbrev pub is_at : ℕ → List ℕ → List (List ℕ) → Bool
is_at place word fields = is_field word (slice_get fields place)

abbrev pub row_at : ℕ → Kind → Option Row
row_at place kind = Some (record { place = place; kind = kind })

abbrev pub is_number : Option (List ℕ) → Bool
is_number None = false
is_number (Some field) = is_some (number_of field)

-- the third field is a number
abbrev pub has_number : List (List ℕ) → Bool
has_number fields = is_number (slice_get fields 2)

-- `submit cK OP` in a schedule, `submit cK ID OP` in a transcript
abbrev pub submit_place : List (List ℕ) → ℕ
submit_place fields = if nat_lt 3 (length fields) && has_number fields then 3 else 2

-- `read cK oM KEY` in a schedule, `read cK ID oM KEY` in a transcript
abbrev pub read_place : List (List ℕ) → ℕ
read_place fields = if length fields == 4 then 3 else 4

-- lines of schedules and transcripts, and `none part KEY line K`
abbrev pub plain_row : List (List ℕ) → Option Row
plain_row fields =
    if is_at 0 (codes "submit") fields then row_at (submit_place fields) Op
    else if is_at 0 (codes "accept") fields then row_at 3 Answer
    else if is_at 0 (codes "read") fields then row_at (read_place fields) Key
    else if is_at 0 (codes "answer") fields then row_at 5 Answer
    else if is_at 0 (codes "history") fields then row_at 4 Op
    else if is_at 0 (codes "entry") fields then row_at 5 Op
    else if is_at 0 (codes "none") fields then row_at 2 Key
    else None

-- what an actor took, in a trace
abbrev pub taken_row : List (List ℕ) → Option Row
taken_row fields =
    if is_at 2 (codes "submit") fields then row_at 3 Op
    else if is_at 2 (codes "read") fields then row_at 4 Key
    else None

-- what an actor gave, in a trace
abbrev pub given_row : List (List ℕ) → Option Row
given_row fields =
    if is_at 2 (codes "submit") fields then row_at 4 Op
    else if is_at 2 (codes "accept") fields then row_at 4 Answer
    else if is_at 2 (codes "read") fields then row_at 5 Key
    else if is_at 2 (codes "answer") fields then row_at 6 Answer
    else None

abbrev pub any_row : List (List ℕ) → Option Row
any_row fields =
    if is_at 0 (codes "in") fields then taken_row fields
    else if is_at 0 (codes "out") fields then given_row fields
    else plain_row fields

-- where there is such a field
abbrev pub within : List (List ℕ) → Option Row → Option Row
within fields None = None
within fields (Some r) = if nat_lt r.place (length fields) then Some r else None

unfoldable pub row_of : List (List ℕ) → Option Row
row_of fields = within fields (any_row fields)
