-- With what status the program ends.
use Rattle.std.specs.Prelude.{ℕ, List, Option, ⊤}
use Rattle.std.specs.Io.KnownBytes.{Appends}
use Rattle.nop_types.specs.Meaning.{Meaning}
use Rattle.outside.specs.Prefixes.{AppendsPrefix}
use Rattle.replay.specs.Generated.{drawn_summary}
use Rattle.replay.specs.Outcome.{IsDone, IsMalformed, IsInterrupted, WrotePrefix}
use Rattle.commands.specs.Words.{usage_line}
use Rattle.commands.specs.declared.status.Status.{Status}
use Rattle.commands.specs.declared.status.Status.TheVariants.{Done, Malformed, Usage, ReadFault, WriteFault, NoMemory}

module _ {S : Type 0} (m : Meaning S) where
  -- some line is bad
  pub record FoundMalformed (bytes left before now : Option (List ℕ)) : Type 0 where
    pub line : ℕ
    pub rule : ℕ
    pub is : IsMalformed m line rule bytes left before now

  -- how a replay ended, by the bytes before it, those left, and what the sink held before and holds now
  abbrev pub ReplayEnds : Option (List ℕ) → Option (List ℕ) → Option (List ℕ) → Option (List ℕ) → Status → Type 0
  ReplayEnds bytes left before now Done = IsDone m bytes left before now
  ReplayEnds bytes left before now Malformed = FoundMalformed bytes left before now
  ReplayEnds bytes left before now ReadFault = IsInterrupted m bytes left before now
  ReplayEnds bytes left before now WriteFault = WrotePrefix m bytes before now
  ReplayEnds bytes left before now NoMemory = WrotePrefix m bytes before now
  ReplayEnds bytes left before now _ = ⊥

  -- how a generation ended: the summary was written, or a front of it that is not all
  abbrev pub GenEnds : ℕ → ℕ → Option (List ℕ) → Option (List ℕ) → Status → Type 0
  GenEnds number count before now Done = Appends before now (drawn_summary m number count)
  GenEnds number count before now WriteFault = AppendsPrefix before now (drawn_summary m number count)
  GenEnds number count before now NoMemory = AppendsPrefix before now (drawn_summary m number count)
  GenEnds number count before now _ = ⊥

-- the usage line of a program with this name was written, or only a front of it
abbrev pub UsageEnds : List ℕ → Option (List ℕ) → Option (List ℕ) → Status → Type 0
UsageEnds program before now Usage = Appends before now (usage_line program)
UsageEnds program before now WriteFault = AppendsPrefix before now (usage_line program)
UsageEnds program before now NoMemory = AppendsPrefix before now (usage_line program)
UsageEnds program before now _ = ⊥

-- how a replay ends where no device failed
abbrev pub EndsWithoutFault : Status → Type 0
EndsWithoutFault Done = ⊤
EndsWithoutFault Malformed = ⊤
EndsWithoutFault NoMemory = ⊤
EndsWithoutFault _ = ⊥

-- how a generation ends where no device failed
abbrev pub GeneratesWithoutFault : Status → Type 0
GeneratesWithoutFault Done = ⊤
GeneratesWithoutFault NoMemory = ⊤
GeneratesWithoutFault _ = ⊥

-- how words that are not taken end where no device failed
abbrev pub RefusesWithoutFault : Status → Type 0
RefusesWithoutFault Usage = ⊤
RefusesWithoutFault NoMemory = ⊤
RefusesWithoutFault _ = ⊥
