-- What reading a transcript answers, in which results may be unnoted.
use Rattle.std.specs.Prelude.{◌≡◌, ℕ, ◌++◌, List, ◌∷◌, length, map, Bool, true, false, Option, Some, None, Result, Ok, Err}
use Rattle.std.specs.List.{flat_map}
use Rattle.transcript_reader.specs.AsRead as rows
use Rattle.transcript_reader.specs.Reading.{Went, whole}
use Rattle.transcript_reader.specs.Steps.{SoFar, so_far, step}
use Rattle.transcript_reader.specs.Transcripts.{Transcript, Spells, body, places_of, said, said_by}
use Rattle.transcript_reader.specs.declared.check_error.CheckError.{CheckError}
use Rattle.transcript_rows.specs.declared.row.Row.{Row}
use Rattle.unnoted_reader.specs.Unnoted.{as_read, marks_of}
use Rattle.unnoted_reader.specs.declared.unnoted.Unnoted.{Unnoted}

-- what was read, but for the marks
abbrev pub read_so_far : Unnoted → SoFar
read_so_far u = so_far u.taken

-- each claim of these lines has its mark
abbrev pub KeepsMarks : Unnoted → List (List ℕ) → List Row → Type 0
KeepsMarks u texts rows = (u.marks.items ≡ marks_of texts rows) × (length u.marks.items ≡ length (read_so_far u).said)

-- a row with its mark, if it claims something
abbrev pub TakesRow : ℕ → Row → Bool → SoFar → List Bool → SoFar → List Bool → Bool → Type 0
TakesRow line row unnoted old marks new marks_now true =
    (step line old row ≡ Some new) × (marks_now ≡ marks ++ map (λ l. unnoted) (said_by row))
TakesRow line row unnoted old marks new marks_now false = step line old row ≡ None

-- ---- the whole

-- as they are read, the lines before this one are in their places, and it is the first that breaks a clause
abbrev pub IsRefused : Option (List ℕ) → Option (List ℕ) → ℕ → ℕ → Type 0
IsRefused before left line clause = rows.IsRefused as_read before left line clause

-- the source has none left; as they are read, its lines spell a transcript, and this is what it says; the claims with a mark accept what
-- nobody noted
pub record IsTranscript (before left : Option (List ℕ)) (s : SoFar) (marks : List Bool) : Type 0 where
  pub first : List ℕ
  pub texts : List (List ℕ)
  pub went : Went before left (flat_map whole (first ∷ texts)) true
  pub transcript : Transcript
  pub spells : Spells transcript (flat_map whole (first ∷ map as_read texts))
  pub claims : s.said ≡ said transcript
  pub places : s.places ≡ places_of 2 transcript.events
  pub history : s.history ≡ transcript.history
  pub marks_are : marks ≡ marks_of texts (body transcript)

-- the bytes that were taken decide lines that are each in their place, and no other line
abbrev pub IsInterrupted : Option (List ℕ) → Option (List ℕ) → Type 0
IsInterrupted before left = rows.IsInterrupted as_read before left

abbrev pub IsRead : Option (List ℕ) → Option (List ℕ) → Result Unnoted CheckError → Type 0
IsRead before left (Ok u) = IsTranscript before left (so_far u.taken) u.marks.items
IsRead before left (Err e) = rows.IsError as_read before left e
