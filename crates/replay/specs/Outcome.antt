-- How a replay ends.
use Rattle.std.specs.Prelude.{◌≡◌, ℕ, List, [], ◌++◌, Bool, true, false, Option, Some, None, Result, Ok, Err, ⊤}
use Rattle.std.specs.Io.KnownBytes.{Appends}
use Rattle.nop_types.specs.Meaning.{Meaning}
use Rattle.outside.specs.Causes.{next_count, StaysOrRises}
use Rattle.outside.specs.Prefixes.{AppendsPrefix}
use Rattle.replay.specs.declared.error.ReplayError.{ReplayError}
use Rattle.replay.specs.declared.error.ReplayError.TheVariants as errors
use Rattle.replay.specs.Output.{BadLine, output}

module _ {S : Type 0} (m : Meaning S) where
  -- all bytes were taken, none of their lines is bad, and their output was written
  pub record Done (bytes left : List ℕ) (before now : Option (List ℕ)) : Type 0 where
    pub all : left ≡ []
    pub good : (output m true bytes).bad ≡ None
    pub wrote : Appends before now (output m true bytes).text

  -- The bytes taken decide a bad line, whatever would follow them, and the output up to it was written. Where the source had
  -- ended, nothing follows.
  pub record Malformed (line rule : ℕ) (bytes left : List ℕ) (before now : Option (List ℕ)) : Type 0 where
    pub taken : List ℕ
    pub split : bytes ≡ taken ++ left
    pub ended : Bool
    pub end : ended ≡ true → left ≡ []
    pub bad : BadLine
    pub line_is : bad.line ≡ line
    pub rule_is : bad.rule ≡ rule
    pub text : List ℕ
    pub decides : (more : List ℕ) → (ended ≡ true → more ≡ []) → output m true (taken ++ more) ≡ record { text = text; bad = Some bad }
    pub wrote : Appends before now text

  -- The bytes taken decide no bad line, and what was written are the lines that they decide.
  pub record Interrupted (bytes left : List ℕ) (before now : Option (List ℕ)) : Type 0 where
    pub taken : List ℕ
    pub split : bytes ≡ taken ++ left
    pub good : (output m false taken).bad ≡ None
    pub wrote : Appends before now (output m false taken).text

  -- ---- the same of a source that is observable, or not

  abbrev pub IsDone : Option (List ℕ) → Option (List ℕ) → Option (List ℕ) → Option (List ℕ) → Type 0
  IsDone None left before now = ⊤
  IsDone (Some bytes) None before now = ⊥
  IsDone (Some bytes) (Some left) before now = Done bytes left before now

  abbrev pub IsMalformed : ℕ → ℕ → Option (List ℕ) → Option (List ℕ) → Option (List ℕ) → Option (List ℕ) → Type 0
  IsMalformed line rule None left before now = ⊤
  IsMalformed line rule (Some bytes) None before now = ⊥
  IsMalformed line rule (Some bytes) (Some left) before now = Malformed line rule bytes left before now

  abbrev pub IsInterrupted : Option (List ℕ) → Option (List ℕ) → Option (List ℕ) → Option (List ℕ) → Type 0
  IsInterrupted None left before now = ⊤
  IsInterrupted (Some bytes) None before now = ⊥
  IsInterrupted (Some bytes) (Some left) before now = Interrupted bytes left before now

  -- a front of the output of the whole input was written, and not all
  abbrev pub WrotePrefix : Option (List ℕ) → Option (List ℕ) → Option (List ℕ) → Type 0
  WrotePrefix None before now = ⊤
  WrotePrefix (Some bytes) before now = AppendsPrefix before now (output m true bytes).text

  -- how a replay ended, by the bytes before it, those left, and what the sink held before and holds now
  abbrev pub EndsWith : Option (List ℕ) → Option (List ℕ) → Option (List ℕ) → Option (List ℕ) → Result (Unit {0}) ReplayError → Type 0
  EndsWith bytes left before now (Ok x) = IsDone bytes left before now
  EndsWith bytes left before now (Err (errors.Malformed line rule)) = IsMalformed line rule bytes left before now
  EndsWith bytes left before now (Err errors.ReadFault) = IsInterrupted bytes left before now
  EndsWith bytes left before now (Err errors.WriteFault) = WrotePrefix bytes before now
  EndsWith bytes left before now (Err errors.NoMemory) = WrotePrefix bytes before now

-- ---- a read that fails is told

-- The source's count of faults after an answer: ReadFault tells one more, and at Ok and at a bad line no read failed. After a read
-- that failed, the lines before it are written: what fails there is told in its place.
abbrev pub ReadsTo : {T : Type 0} → ℕ → ℕ → Result T ReplayError → Type 0
ReadsTo before now (Ok t) = now ≡ before
ReadsTo before now (Err (errors.Malformed line rule)) = now ≡ before
ReadsTo before now (Err errors.ReadFault) = now ≡ next_count before
ReadsTo before now (Err errors.WriteFault) = StaysOrRises before now
ReadsTo before now (Err errors.NoMemory) = StaysOrRises before now
