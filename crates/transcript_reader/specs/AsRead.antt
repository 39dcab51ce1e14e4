-- What reading a transcript answers, of which each line behind the first is read as another text of its length.
use Rattle.std.specs.Prelude.{◌≡◌, ◌⊎◌, ℕ, ◌+◌, ⊤, List, [], ◌∷◌, ◌++◌, length, map, Bool, true, false, Option, Some, Result, Ok, Err}
use Rattle.std.specs.List.{flat_map}
use Rattle.std.specs.Io.KnownBytes.{Consumes}
use Rattle.line_reader.specs.Cutting.{Cut, with_end, lines_of}
use Rattle.line_reader.specs.Deciding.{cut_of}
use Rattle.line_reader.specs.Reading.{Reading}
use Rattle.line_reader.specs.declared.first_line.FirstLine.{FirstLine}
use Rattle.nop_types.specs.Headers.{is_header}
use Rattle.nop_types.specs.declared.header.Header.{Header}
use Rattle.transcript_reader.specs.Reading.{Admits, After, First, Behind, IsAt, IsMisplaced, IsUnfinished, Place, RefusesCut, StartsWith}
use Rattle.transcript_reader.specs.Reading.{Went, whole}
use Rattle.transcript_reader.specs.Steps.{SoFar, step}
use Rattle.transcript_reader.specs.Transcripts.{Transcript, Spells, body, places_of, said, transcript_lines}
use Rattle.transcript_reader.specs.declared.check_error.CheckError.{CheckError}
use Rattle.transcript_reader.specs.declared.check_error.CheckError.TheVariants.{Refuted, ReadFault, NoMemory}
use Rattle.transcript_reader.specs.declared.limits.TheConstants.{MAX_TRANSCRIPT_LINES}
use Rattle.transcript_reader.specs.declared.part.Part.{Part}
use Rattle.transcript_reader.specs.declared.part.Part.TheVariants.{Over}
use Rattle.transcript_rows.specs.declared.row.Row.{Row}
use Rattle.transcript_rows.specs.Rows.{RowFits, row_text}
use Rattle.transcript_text.specs.Transcript.{transcript_line}

-- the first line was taken
pub record ReadsFirst (before left : Option (List ℕ)) (r : Reading) : Type 0 where
  pub all : List ℕ
  pub went : Went before left all r.ended
  pub text : List ℕ
  pub behind : Behind (text ∷ []) all r
  pub header : Header
  pub is : is_header header ≡ true
  pub line : transcript_line header.form header.config ≡ whole text

-- the transcript is whole, or its last line is missing
abbrev pub IsFinished : Part → ℕ → Result ℕ CheckError → Type 0
IsFinished part lines (Ok count) = (count ≡ lines) × (part ≡ Over)
IsFinished part lines (Err (Refuted line clause)) = (line ≡ lines + 1) × (clause ≡ 2) × (part ≡ Over → ⊥)
IsFinished part lines (Err ReadFault) = ⊥
IsFinished part lines (Err NoMemory) = ⊥

module _ (f : List ℕ → List ℕ) where
  -- a line as it is read, where it stands
  abbrev pub cut_as : Place → Cut → Cut
  cut_as First cut = cut
  cut_as (After s) cut = record { text = f cut.text; closed = cut.closed }

  abbrev pub texts_as : List (List ℕ) → List (List ℕ)
  texts_as [] = []
  texts_as (first ∷ texts) = first ∷ map f texts

  -- ---- what is refused

  -- the next line is misplaced as it is read, or too long
  abbrev pub RefusesFirst : Reading → FirstLine → Place → CheckError → Type 0
  RefusesFirst r first place (Refuted line clause) =
      (line ≡ r.line + 1) × RefusesCut r.line place (cut_as place (cut_of first r.pending)) clause
  RefusesFirst r first place ReadFault = ⊥
  RefusesFirst r first place NoMemory = ⊤

  abbrev pub RefusesNext : List ℕ → Bool → List (List ℕ) → Place → ℕ → Type 0
  RefusesNext all was_ended texts place clause =
      ((cut : Cut) × StartsWith all was_ended (map with_end texts ++ cut ∷ []) × RefusesCut (length texts) place (cut_as place cut) clause)
      ⊎ ((clause ≡ 2) × (was_ended ≡ true) × (lines_of MAX_TRANSCRIPT_LINES true 0 all ≡ map with_end texts) × IsUnfinished place)

  -- as they are read, the lines before this one are in their places, and it is the first that breaks a clause
  pub record IsRefused (before left : Option (List ℕ)) (line clause : ℕ) : Type 0 where
    pub all : List ℕ
    pub ended : Bool
    pub went : Went before left all ended
    pub texts : List (List ℕ)
    pub place : Place
    pub at : IsAt (texts_as texts) place
    pub number : line ≡ length texts + 1
    pub refuses : RefusesNext all ended texts place clause

  -- the bytes that were taken decide lines that are each in their place, and no other line
  pub record IsInterrupted (before left : Option (List ℕ)) : Type 0 where
    pub all : List ℕ
    pub source : Consumes before left all
    pub texts : List (List ℕ)
    pub place : Place
    pub at : IsAt (texts_as texts) place
    pub decided : lines_of MAX_TRANSCRIPT_LINES false 0 all ≡ map with_end texts

  abbrev pub IsError : Option (List ℕ) → Option (List ℕ) → CheckError → Type 0
  IsError before left (Refuted line clause) = IsRefused before left line clause
  IsError before left ReadFault = IsInterrupted before left
  IsError before left NoMemory = ⊤

  -- what a reader read, and what it keeps besides of the lines and of their rows
  module _ {A : Type 0} (read_by : A → SoFar) (Keeps : A → List (List ℕ) → List Row → Type 0) where
    -- a text is, as it is read, the row that comes next, or no row that may
    abbrev pub IsTaken : ℕ → List ℕ → A → A → Bool → Type 0
    IsTaken line text old new true =
        (row : Row) × RowFits row × (row_text row ≡ whole (f text)) × (step line (read_by old) row ≡ Some (read_by new))
        × ((texts : List (List ℕ)) (rows : List Row) → length texts ≡ length rows → Keeps old texts rows
        → Keeps new (texts ++ text ∷ []) (rows ++ row ∷ []))
    IsTaken line text old new false = IsMisplaced line (After (read_by old)) (f text)

    -- what was read, behind the first line: as they are read, the lines are these rows
    pub record Reads (before left : Option (List ℕ)) (r : Reading) (x : A) : Type 0 where
      pub all : List ℕ
      pub went : Went before left all r.ended
      pub first : List ℕ
      pub texts : List (List ℕ)
      pub behind : Behind (first ∷ texts) all r
      pub header : Header
      pub rows : List Row
      pub admits : Admits (first ∷ map f texts) header rows (read_by x)
      pub keeps : Keeps x texts rows

    -- the source has none left; as they are read, its lines spell a transcript, and this is what it says
    pub record IsTranscript (before left : Option (List ℕ)) (x : A) (count : ℕ) : Type 0 where
      pub first : List ℕ
      pub texts : List (List ℕ)
      pub went : Went before left (flat_map whole (first ∷ texts)) true
      pub transcript : Transcript
      pub spells : Spells transcript (flat_map whole (first ∷ map f texts))
      pub claims : (read_by x).said ≡ said transcript
      pub places : (read_by x).places ≡ places_of 2 transcript.events
      pub history : (read_by x).history ≡ transcript.history
      pub keeps : Keeps x texts (body transcript)
      pub lines : count ≡ length (transcript_lines transcript)

    abbrev pub IsRead : Option (List ℕ) → Option (List ℕ) → A → Result ℕ CheckError → Type 0
    IsRead before left x (Ok count) = IsTranscript before left x count
    IsRead before left x (Err e) = IsError before left e
