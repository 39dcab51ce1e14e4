-- How the program ends.
use Rattle.std.specs.Prelude.{◌≡◌, ◌⊎◌, ◌∷◌, [], ◌++◌, ℕ, List, Option, Some, None, Result, Ok, Err}
use Rattle.std.specs.Global.{Vec}
use Rattle.std.specs.Io.KnownBytes.{Appends}
use Rattle.linearize.specs.Answers.{IsAnswered}
use Rattle.linearize.specs.Texts.{answer_text}
use Rattle.linearize.specs.declared.answer.Answer.{Answer}
use Rattle.linearize.specs.declared.answer.Answer.TheVariants.{Order, NoOrder, Repeated, Unknown}
use Rattle.linearize.specs.declared.status.Status.{Status}
use Rattle.linearize.specs.declared.status.Status.TheVariants.{Done, Usage, ReadFault, WriteFault, NoMemory, Refuted, Undecided}
use Rattle.nop_types.specs.Meaning.{Meaning}
use Rattle.outside.specs.Causes.{next_count, StaysOrRises}
use Rattle.outside.specs.Prefixes.{AppendsPrefix, AppendsUpTo}
use Rattle.transcript_reader.specs.declared.check_error.CheckError.{CheckError}
use Rattle.transcript_reader.specs.declared.check_error.CheckError.TheVariants as errors
use Rattle.transcript_reader.specs.declared.claim.Claim.{Claim}

-- the status of an answer that was written
abbrev pub status_of : Result Answer CheckError → Status
status_of (Ok (Order claims places)) = Done
status_of (Ok (NoOrder part line)) = Refuted
status_of (Ok (Repeated line)) = Undecided
status_of (Ok (Unknown steps)) = Undecided
status_of (Err (errors.Refuted line clause)) = Refuted
status_of (Err errors.ReadFault) = ReadFault
status_of (Err errors.NoMemory) = NoMemory

-- by the bytes that were left before and those left now, and by what the sink held before and holds now
module _ {S : Type 0} (m : Meaning S) (part_of : List ℕ → List ℕ) (most_parts most : ℕ) (bytes left before now : Option (List ℕ)) where
  -- a right answer was written
  pub record Wrote (answer : Result Answer CheckError) : Type 0 where
    pub right : IsAnswered m part_of most_parts most bytes left answer
    pub text : Appends before now (answer_text answer)

  -- a write failed in it
  pub record BrokeOff : Type 0 where
    pub answer : Result Answer CheckError
    pub right : IsAnswered m part_of most_parts most bytes left answer
    pub text : AppendsPrefix before now (answer_text answer)

  -- memory ran out before it, or in it
  pub record RanOut : Type 0 where
    pub answer : Result Answer CheckError
    pub right : IsAnswered m part_of most_parts most bytes left answer
    pub text : AppendsUpTo before now (answer_text answer)

  abbrev pub Ends : Status → Type 0
  Ends Done = (claims : Vec Claim) × (places : Vec ℕ) × Wrote (Ok (Order claims places))
  Ends Refuted =
      ((part : Vec ℕ) × (line : ℕ) × Wrote (Ok (NoOrder part line)))
      ⊎ ((line : ℕ) × (clause : ℕ) × Wrote (Err (errors.Refuted line clause)))
  Ends Undecided = Wrote (Ok (Unknown most)) ⊎ ((line : ℕ) × Wrote (Ok (Repeated line)))
  Ends ReadFault = Wrote (Err errors.ReadFault)
  Ends WriteFault = BrokeOff
  Ends NoMemory = RanOut
  Ends Usage = ⊥

-- the usage line was written, or only a front of it
abbrev pub UsageEnds : List ℕ → Option (List ℕ) → Option (List ℕ) → Status → Type 0
UsageEnds usage before now Usage = Appends before now (usage ++ 10 ∷ [])
UsageEnds usage before now WriteFault = AppendsPrefix before now (usage ++ 10 ∷ [])
UsageEnds usage before now NoMemory = AppendsPrefix before now (usage ++ 10 ∷ [])
UsageEnds usage before now _ = ⊥

-- with so many steps, or with no arguments that are taken
abbrev pub RunEnds : {S : Type 0} → Meaning S → (List ℕ → List ℕ) → ℕ → List ℕ → Option ℕ → (bytes left before now : Option (List ℕ))
    → Status → Type 0
RunEnds m part_of most_parts usage None bytes left before now s = UsageEnds usage before now s
RunEnds m part_of most_parts usage (Some most) bytes left before now s = Ends m part_of most_parts most bytes left before now s

-- a count of failed reads: it rose by one at ReadFault, and else stayed; but what fails after a failed read is told in its place
abbrev pub ReadsTo : ℕ → ℕ → Status → Type 0
ReadsTo before now ReadFault = now ≡ next_count before
ReadsTo before now WriteFault = StaysOrRises before now
ReadsTo before now NoMemory = StaysOrRises before now
ReadsTo before now _ = now ≡ before
