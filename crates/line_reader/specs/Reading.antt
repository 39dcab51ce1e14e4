-- A reader of lines.
use Rattle.std.specs.Prelude.{◌≡◌, ◌≢◌, ◌⊎◌, ℕ, ◌≤◌, ◌++◌, List, [], Bool, true, false, Option, Some, None, Result, Ok, Err, ⊤}
use Rattle.std.specs.Prelude.{MatchOption}
use Rattle.std.specs.Io.KnownBytes.{Consumes, IsAtEnd}
use Rattle.line_reader.specs.declared.first_line.FirstLine.{FirstLine}
use Rattle.line_reader.specs.declared.read_error.ReadError.{ReadError}
use Rattle.line_reader.specs.declared.read_error.ReadError.TheVariants.{ReadFault, NoMemory}
use Rattle.line_reader.specs.Cutting.{Cut, lines_of}
use Rattle.line_reader.specs.Deciding.{IsFirstLine, IsUndecided}

-- how many lines there may be and how many were taken, the bytes behind them that were read, and whether the source ended with these
pub record Reading : Type 0 where
  pub most : ℕ
  pub line : ℕ
  pub pending : List ℕ
  pub ended : Bool

abbrev pub opening : ℕ → Reading
opening most = record { most = most; line = 0; pending = []; ended = false }

-- the lines that lie before the reader, if these bytes follow
abbrev pub lines_before : Reading → Bool → List ℕ → List Cut
lines_before r ended more = lines_of r.most ended r.line (r.pending ++ more)

-- the next line is known as soon as it is decided
pub record IsReader (next : Option FirstLine) (most line : ℕ) (ended : Bool) (pending : List ℕ) : Type 0 where
  pub first : MatchOption next (IsUndecided most line ended pending) (IsFirstLine most line ended pending)
  pub within : line ≤ most

abbrev pub IsFirst : Reading → FirstLine → Type 0
IsFirst r first = IsFirstLine r.most r.line r.ended r.pending first

-- the first line, or the end
abbrev pub Reaches : Reading → Option FirstLine → Type 0
Reaches r None = (r.ended ≡ true) × (r.pending ≡ [])
Reaches r (Some first) = IsFirst r first

-- the first line or the end is there, so that nothing has to be read
abbrev pub NeedsNoRead : Reading → Type 0
NeedsNoRead r = (r.ended ≡ true) ⊎ (lines_before r false [] ≢ [])

-- these bytes were read behind those that were there; after the end none
pub record Grows (old new : Reading) (taken : List ℕ) : Type 0 where
  pub most : new.most ≡ old.most
  pub line : new.line ≡ old.line
  pub pending : new.pending ≡ old.pending ++ taken
  pub after_end : old.ended ≡ true → (taken ≡ []) × (new.ended ≡ true)

-- no known byte is left of a source that told its bytes before
abbrev pub IsEnd : Option (List ℕ) → Option (List ℕ) → Type 0
IsEnd None left = ⊤
IsEnd (Some bytes) left = IsAtEnd left

-- bytes went from the source to the reader; where it met the end, no known byte is left
pub record TakesFrom (old new : Reading) (before left : Option (List ℕ)) : Type 0 where
  pub taken : List ℕ
  pub source : Consumes before left taken
  pub grows : Grows old new taken
  pub end : old.ended ≡ false → new.ended ≡ true → IsEnd before left

-- at a fault no line was left that is decided, and the source had not ended
abbrev pub LeavesNone : {A : Type 0} → Reading → Result A ReadError → Type 0
LeavesNone r (Ok x) = ⊤
LeavesNone r (Err ReadFault) = (r.ended ≡ false) × (lines_before r false [] ≡ [])
LeavesNone r (Err NoMemory) = ⊤
