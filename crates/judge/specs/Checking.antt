-- What reading and judging a transcript answers.
use Rattle.std.specs.Prelude.{◌≡◌, ◌⊎◌, ◌+◌, ◌<◌, ℕ, ⊤, List, length, count_by, Bool, true, false, Option, Some, None, slice_get, Result, Ok, Err}
use Rattle.judge.specs.Breaks.{Breaks}
use Rattle.judge.specs.declared.broken.Broken.{Broken}
use Rattle.judge.specs.declared.broken.Broken.TheVariants as broken
use Rattle.judge.specs.declared.tally.Tally.{Tally}
use Rattle.nop_types.specs.Legality.{Legal}
use Rattle.nop_types.specs.Lines.{Line, Submit, Accept}
use Rattle.nop_types.specs.Meaning.{Meaning}
use Rattle.nop_types.specs.declared.request.Request.{Request}
use Rattle.transcript_reader.specs.Reading.{Went, IsInterrupted, IsRefused}
use Rattle.transcript_reader.specs.Steps.{SoFar}
use Rattle.transcript_reader.specs.Transcripts.{Transcript, Spells, said, places_of}
use Rattle.transcript_reader.specs.declared.check_error.CheckError.{CheckError}
use Rattle.transcript_reader.specs.declared.check_error.CheckError.TheVariants as errors

-- ---- what is counted

abbrev pub submits : Line → Bool
submits (Submit request) = true
submits _ = false

abbrev pub accepts : Line → Bool
accepts (Accept client id result) = true
accepts _ = false

-- the lines that submit, those that accept, and the members of the history
pub record IsTallyOf (lines : List Line) (history : List Request) (tally : Tally) : Type 0 where
  pub submits : tally.submits ≡ count_by submits lines
  pub accepts : tally.accepts ≡ count_by accepts lines
  pub members : tally.history ≡ length history

-- ---- the line of a place

-- a member stands behind the first line, the events, the states, the observers and the earlier members
abbrev pub member_line : Transcript → ℕ → ℕ
member_line t j = length t.events + length t.states + length t.observers + j + 2

-- the line with this number is the one at the place, and the clause is its rule
abbrev pub IsLineOf : Transcript → Broken → ℕ → ℕ → Type 0
IsLineOf t (broken.Repeated j) line clause = (clause ≡ 3) × (line ≡ member_line t j)
IsLineOf t (broken.Unsubmitted j) line clause = (clause ≡ 4) × (line ≡ member_line t j)
IsLineOf t (broken.Unfounded k) line clause = (clause ≡ 5) × (slice_get (places_of 2 t.events) k ≡ Some line)
IsLineOf t (broken.Overtaking k) line clause = (clause ≡ 6) × (slice_get (places_of 2 t.events) k ≡ Some line)
IsLineOf t broken.NoMemory line clause = ⊥

-- ---- the answers

module _ {S : Type 0} (m : Meaning S) where
  -- the bytes spell a transcript whose history is legal for its claims
  pub record IsLegalText (bytes : List ℕ) : Type 0 where
    pub whole : Transcript
    pub spells : Spells whole bytes
    pub legal : Legal m (said whole) whole.history

  -- the source has none left, and its bytes spell this legal transcript
  pub record IsPassed (before left : Option (List ℕ)) (tally : Tally) : Type 0 where
    pub all : List ℕ
    pub went : Went before left all true
    pub text : IsLegalText all
    pub counts : IsTallyOf (said text.whole) text.whole.history tally

  -- it has none left, its bytes spell a transcript, and this is the first line that breaks the first clause that is broken
  pub record IsIllegal (before left : Option (List ℕ)) (line clause : ℕ) : Type 0 where
    pub all : List ℕ
    pub went : Went before left all true
    pub whole : Transcript
    pub spells : Spells whole all
    pub place : Broken
    pub breaks : Breaks m (said whole) whole.history place
    pub at : IsLineOf whole place line clause

  abbrev pub IsChecked : Option (List ℕ) → Option (List ℕ) → Result Tally CheckError → Type 0
  IsChecked before left (Ok tally) = IsPassed before left tally
  IsChecked before left (Err (errors.Refuted line clause)) = IsRefused before left line clause ⊎ IsIllegal before left line clause
  IsChecked before left (Err errors.ReadFault) = IsInterrupted before left
  IsChecked before left (Err errors.NoMemory) = ⊤

  -- where the source is observable, those of a legal transcript are not refuted
  abbrev pub PassesLegal : Option (List ℕ) → Result Tally CheckError → Type 0
  PassesLegal None r = ⊤
  PassesLegal (Some bytes) (Ok tally) = ⊤
  PassesLegal (Some bytes) (Err (errors.Refuted line clause)) = IsLegalText bytes → ⊥
  PassesLegal (Some bytes) (Err errors.ReadFault) = ⊤
  PassesLegal (Some bytes) (Err errors.NoMemory) = ⊤

-- ---- behind the reader

-- each claim has its line, and there is room for the members before the last line
pub record IsNumbered (s : SoFar) (count : ℕ) : Type 0 where
  pub places : length s.places ≡ length s.said
  pub room : length s.said + length s.history < count

abbrev pub IsWithin : SoFar → Broken → Type 0
IsWithin s (broken.Repeated j) = j < length s.history
IsWithin s (broken.Unsubmitted j) = j < length s.history
IsWithin s (broken.Unfounded k) = k < length s.places
IsWithin s (broken.Overtaking k) = k < length s.places
IsWithin s broken.NoMemory = ⊤

-- the history stands before the last of `count` lines
abbrev pub IsFoundAt : SoFar → ℕ → Broken → ℕ → ℕ → Type 0
IsFoundAt s count (broken.Repeated j) line clause = (clause ≡ 3) × (line + length s.history ≡ count + j)
IsFoundAt s count (broken.Unsubmitted j) line clause = (clause ≡ 4) × (line + length s.history ≡ count + j)
IsFoundAt s count (broken.Unfounded k) line clause = (clause ≡ 5) × (slice_get s.places k ≡ Some line)
IsFoundAt s count (broken.Overtaking k) line clause = (clause ≡ 6) × (slice_get s.places k ≡ Some line)
IsFoundAt s count broken.NoMemory line clause = ⊥

abbrev pub Reports : SoFar → ℕ → Broken → CheckError → Type 0
Reports s count place (errors.Refuted line clause) = IsFoundAt s count place line clause
Reports s count place errors.ReadFault = ⊥
Reports s count place errors.NoMemory = ⊤

abbrev pub IsJudged : {S : Type 0} → Meaning S → SoFar → ℕ → Result Tally CheckError → Type 0
IsJudged m s count (Ok tally) = Legal m s.said s.history × IsTallyOf s.said s.history tally
IsJudged m s count (Err (errors.Refuted line clause)) =
    (place : Broken) × Breaks m s.said s.history place × IsFoundAt s count place line clause
IsJudged m s count (Err errors.ReadFault) = ⊥
IsJudged m s count (Err errors.NoMemory) = ⊤
