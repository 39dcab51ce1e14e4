-- What reading a transcript from a source answers.
use Rattle.std.specs.Prelude.{◌≡◌, ◌⊎◌, ◌<◌, ◌≤◌, ℕ, ◌+◌, ⊤, List, [], ◌∷◌, ◌++◌, length, map, Bool, true, false, Option, Some, None}
use Rattle.std.specs.Prelude.{Result, Ok, Err, drop}
use Rattle.std.specs.List.{flat_map}
use Rattle.std.specs.Io.KnownBytes.{Consumes}
use Rattle.line_reader.specs.Cutting.{Cut, with_end, lines_of}
use Rattle.line_reader.specs.Deciding.{Follows, is_closed}
use Rattle.line_reader.specs.Reading.{Reading, IsEnd, lines_before}
use Rattle.line_reader.specs.declared.first_line.FirstLine.{FirstLine}
use Rattle.nop_types.specs.Headers.{is_header}
use Rattle.nop_types.specs.declared.header.Header.{Header}
use Rattle.nop_types.specs.declared.limits.TheConstants.{MAX_LINE_BYTES}
use Rattle.transcript_reader.specs.Steps.{SoFar, so_far, step, run}
use Rattle.transcript_reader.specs.Transcripts.{AllFit, Transcript, Spells, places_of, said, transcript_lines}
use Rattle.transcript_reader.specs.declared.check_error.CheckError.{CheckError}
use Rattle.transcript_reader.specs.declared.check_error.CheckError.TheVariants.{Refuted, ReadFault, NoMemory}
use Rattle.transcript_reader.specs.declared.part.Part.TheVariants.{Over}
use Rattle.transcript_reader.specs.declared.limits.TheConstants.{MAX_TRANSCRIPT_LINES}
use Rattle.transcript_reader.specs.declared.taken.Taken.{Taken}
use Rattle.transcript_rows.specs.declared.row.Row.{Row}
use Rattle.transcript_rows.specs.Rows.{RowFits, row_text}
use Rattle.transcript_text.specs.Transcript.{transcript_line}

abbrev pub whole : List ℕ → List ℕ
whole text = text ++ 10 ∷ []

-- ---- the lines so far

-- the lines of these texts were taken, and the reader is behind them
pub record Behind (texts : List (List ℕ)) (all : List ℕ) (r : Reading) : Type 0 where
  pub most : r.most ≡ MAX_TRANSCRIPT_LINES
  pub line : r.line ≡ length texts
  pub bytes : all ≡ flat_map whole texts ++ r.pending
  pub lines : (ended : Bool) (more : List ℕ) → Follows r.ended ended more
      → lines_of MAX_TRANSCRIPT_LINES ended 0 (all ++ more)
      ≡ map with_end texts ++ lines_of MAX_TRANSCRIPT_LINES ended r.line (r.pending ++ more)

-- they are a first line and these rows, each in its place
pub record Admits (texts : List (List ℕ)) (header : Header) (rows : List Row) (s : SoFar) : Type 0 where
  pub first : is_header header ≡ true
  pub lines : map whole texts ≡ transcript_line header.form header.config ∷ map row_text rows
  pub fit : AllFit rows
  pub ran : run rows ≡ Some s

-- before the first line, or behind it
pub data Place : Type 0 where
  First : Place
  After : SoFar → Place

abbrev pub IsAt : List (List ℕ) → Place → Type 0
IsAt texts First = texts ≡ []
IsAt texts (After s) = (header : Header) × (rows : List Row) × Admits texts header rows s

-- ---- what is refused

-- a line more than there may be, or a byte more than a line may have
abbrev pub IsTooMuch : ℕ → Cut → Type 0
IsTooMuch before cut = (MAX_TRANSCRIPT_LINES ≤ before) ⊎ (MAX_LINE_BYTES < length cut.text)

-- the text is no line that may come here
abbrev pub IsMisplaced : ℕ → Place → List ℕ → Type 0
IsMisplaced line First text = (h : Header) → is_header h ≡ true → transcript_line h.form h.config ≡ whole text → ⊥
IsMisplaced line (After s) text = (row : Row) → RowFits row → row_text row ≡ whole text → step line s row ≡ None

-- the line behind `before` lines breaks clause 1, or it does not and breaks clause 2
abbrev pub RefusesCut : ℕ → Place → Cut → ℕ → Type 0
RefusesCut before place cut clause =
    ((clause ≡ 1) × IsTooMuch before cut)
    ⊎ ((clause ≡ 2) × (IsTooMuch before cut → ⊥) × (cut.closed ≡ true → IsMisplaced (before + 1) place cut.text))

-- the last line is missing
abbrev pub IsUnfinished : Place → Type 0
IsUnfinished First = ⊤
IsUnfinished (After s) = s.part ≡ Over → ⊥

-- whatever follows, these lines come first
abbrev pub StartsWith : List ℕ → Bool → List Cut → Type 0
StartsWith all was_ended cuts = (ended : Bool) (more : List ℕ) → Follows was_ended ended more
    → (rest : List Cut) × (lines_of MAX_TRANSCRIPT_LINES ended 0 (all ++ more) ≡ cuts ++ rest)

abbrev pub RefusesNext : List ℕ → Bool → List (List ℕ) → Place → ℕ → Type 0
RefusesNext all was_ended texts place clause =
    ((cut : Cut) × StartsWith all was_ended (map with_end texts ++ cut ∷ []) × RefusesCut (length texts) place cut clause)
    ⊎ ((clause ≡ 2) × (was_ended ≡ true) × (lines_of MAX_TRANSCRIPT_LINES true 0 all ≡ map with_end texts) × IsUnfinished place)

-- the lines before this one are in their places, and it is the first that breaks a clause
pub record RefusesLine (all : List ℕ) (was_ended : Bool) (line clause : ℕ) : Type 0 where
  pub texts : List (List ℕ)
  pub place : Place
  pub at : IsAt texts place
  pub number : line ≡ length texts + 1
  pub refuses : RefusesNext all was_ended texts place clause

-- ---- steps

-- a line that is whole was taken
pub record Advances (old new : Reading) (first : FirstLine) : Type 0 where
  pub fits : old.line < MAX_TRANSCRIPT_LINES
  pub short : first.len ≤ MAX_LINE_BYTES
  pub closed : is_closed first ≡ true
  pub most : new.most ≡ old.most
  pub line : new.line ≡ old.line + 1
  pub pending : new.pending ≡ drop first.end old.pending
  pub ended : new.ended ≡ old.ended

-- ---- the whole

-- bytes went from the source, and the source has none left where it ended
pub record Went (before left : Option (List ℕ)) (all : List ℕ) (ended : Bool) : Type 0 where
  pub source : Consumes before left all
  pub end : ended ≡ true → IsEnd before left

-- what was read before the first line
pub record ReadsNone (before left : Option (List ℕ)) (r : Reading) : Type 0 where
  pub all : List ℕ
  pub went : Went before left all r.ended
  pub behind : Behind [] all r

pub record IsRefused (before left : Option (List ℕ)) (line clause : ℕ) : Type 0 where
  pub all : List ℕ
  pub ended : Bool
  pub went : Went before left all ended
  pub refuses : RefusesLine all ended line clause

-- the source has none left, its bytes spell a transcript, and this is what it says
pub record IsTranscript (before left : Option (List ℕ)) (s : SoFar) (count : ℕ) : Type 0 where
  pub all : List ℕ
  pub went : Went before left all true
  pub whole : Transcript
  pub spells : Spells whole all
  pub claims : s.said ≡ said whole
  pub places : s.places ≡ places_of 2 whole.events
  pub history : s.history ≡ whole.history
  pub lines : count ≡ length (transcript_lines whole)

-- the bytes that were taken decide lines that are each in their place, and no other line
pub record IsInterrupted (before left : Option (List ℕ)) : Type 0 where
  pub all : List ℕ
  pub source : Consumes before left all
  pub texts : List (List ℕ)
  pub place : Place
  pub at : IsAt texts place
  pub decided : lines_of MAX_TRANSCRIPT_LINES false 0 all ≡ map with_end texts

abbrev pub IsError : Option (List ℕ) → Option (List ℕ) → CheckError → Type 0
IsError before left (Refuted line clause) = IsRefused before left line clause
IsError before left ReadFault = IsInterrupted before left
IsError before left NoMemory = ⊤

abbrev pub IsRead : Option (List ℕ) → Option (List ℕ) → Result (Taken × ℕ) CheckError → Type 0
IsRead before left (Ok p) = IsTranscript before left (so_far p.0) p.1
IsRead before left (Err e) = IsError before left e

-- the clause that a line behind `before` lines breaks by its number, its length or its end
abbrev pub LengthRefused : ℕ → FirstLine → Option ℕ → Type 0
LengthRefused before first None = (before < MAX_TRANSCRIPT_LINES) × (first.len ≤ MAX_LINE_BYTES) × (is_closed first ≡ true)
LengthRefused before first (Some clause) =
    ((clause ≡ 1) × ((MAX_TRANSCRIPT_LINES ≤ before) ⊎ (MAX_LINE_BYTES < first.len)))
    ⊎ ((clause ≡ 2) × (before < MAX_TRANSCRIPT_LINES) × (first.len ≤ MAX_LINE_BYTES) × (is_closed first ≡ false))

-- a text is a first line
abbrev pub IsHeader : List ℕ → Type 0
IsHeader text = (h : Header) × (is_header h ≡ true) × (transcript_line h.form h.config ≡ whole text)

-- a call that found no line refutes nothing, and at a fault none was left that is decided
abbrev pub IsNoLine : Reading → CheckError → Type 0
IsNoLine r (Refuted line clause) = ⊥
IsNoLine r ReadFault = (r.ended ≡ false) × (lines_before r false [] ≡ [])
IsNoLine r NoMemory = ⊤
