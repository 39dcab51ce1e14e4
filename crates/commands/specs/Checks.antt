-- How the check of a transcript ends.
use Rattle.std.specs.Prelude.{ℕ, List, Option, Result, Ok, Err, ⊤}
use Rattle.std.specs.Io.KnownBytes.{Appends}
use Rattle.judge.specs.Checking.{IsChecked, PassesLegal}
use Rattle.judge.specs.Verdicts.{verdict_line}
use Rattle.judge.specs.declared.tally.Tally.{Tally}
use Rattle.nop_types.specs.Meaning.{Meaning}
use Rattle.outside.specs.Prefixes.{AppendsPrefix, AppendsUpTo}
use Rattle.transcript_reader.specs.declared.check_error.CheckError.{CheckError}
use Rattle.transcript_reader.specs.declared.check_error.CheckError.TheVariants as errors
use Rattle.commands.specs.declared.status.Status.{Status}
use Rattle.commands.specs.declared.status.Status.TheVariants.{Done, ReadFault, WriteFault, NoMemory, Refuted}

-- the status of a verdict whose line was written
abbrev pub verdict_status : Result Tally CheckError → Status
verdict_status (Ok tally) = Done
verdict_status (Err (errors.Refuted line clause)) = Refuted
verdict_status (Err errors.ReadFault) = ReadFault
verdict_status (Err errors.NoMemory) = NoMemory

module _ {S : Type 0} (m : Meaning S) where
  -- what a judge answers of the bytes: what it passes is legal, and what it refutes is not
  pub record IsVerdict (bytes left : Option (List ℕ)) (verdict : Result Tally CheckError) : Type 0 where
    pub checked : IsChecked m bytes left verdict
    pub passes : PassesLegal m bytes verdict

  -- the verdict was written
  pub record WroteVerdict (bytes left before now : Option (List ℕ)) (verdict : Result Tally CheckError) : Type 0 where
    pub is : IsVerdict bytes left verdict
    pub line : Appends before now (verdict_line verdict)

  -- a write failed in its line
  pub record BrokeOff (bytes left before now : Option (List ℕ)) : Type 0 where
    pub verdict : Result Tally CheckError
    pub is : IsVerdict bytes left verdict
    pub line : AppendsPrefix before now (verdict_line verdict)

  -- memory ran out, in the check or behind it
  pub record RanOut (bytes left before now : Option (List ℕ)) : Type 0 where
    pub verdict : Result Tally CheckError
    pub is : IsVerdict bytes left verdict
    pub line : AppendsUpTo before now (verdict_line verdict)

  -- by the bytes before it, those left, and what the sink held before and holds now
  abbrev pub CheckEnds : Option (List ℕ) → Option (List ℕ) → Option (List ℕ) → Option (List ℕ) → Status → Type 0
  CheckEnds bytes left before now Done = (tally : Tally) × WroteVerdict bytes left before now (Ok tally)
  CheckEnds bytes left before now ReadFault = WroteVerdict bytes left before now (Err errors.ReadFault)
  CheckEnds bytes left before now WriteFault = BrokeOff bytes left before now
  CheckEnds bytes left before now NoMemory = RanOut bytes left before now
  CheckEnds bytes left before now Refuted =
      (line : ℕ) × (clause : ℕ) × WroteVerdict bytes left before now (Err (errors.Refuted line clause))
  CheckEnds bytes left before now _ = ⊥

-- how a check ends where no device failed
abbrev pub ChecksWithoutFault : Status → Type 0
ChecksWithoutFault Done = ⊤
ChecksWithoutFault NoMemory = ⊤
ChecksWithoutFault Refuted = ⊤
ChecksWithoutFault _ = ⊥
