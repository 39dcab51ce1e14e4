-- The steps of a replay, by what they write.
use Rattle.std.specs.Prelude.{◌≡◌, ℕ, List, ◌++◌, Option, None, Result, Ok, Err}
use Rattle.std.specs.Io.KnownBytes.{Appends}
use Rattle.nop_types.specs.Lines.{Line}
use Rattle.outside.specs.Prefixes.{AppendsPrefix, AppendsUpTo}
use Rattle.schedule_text.specs.declared.next_error.NextError.{NextError}
use Rattle.schedule_text.specs.declared.next_error.NextError.TheVariants as nexts
use Rattle.transcript_text.specs.Transcript.{lines_text}
use Rattle.world.specs.declared.step_error.StepError.{StepError}
use Rattle.world.specs.declared.step_error.StepError.TheVariants as steps
use Rattle.world.specs.WorldSteps.{WorldState, Refusal, NoSuchActor, NoSuchDatagram, Forged, Happened}
use Rattle.replay.specs.declared.error.ReplayError.{ReplayError}
use Rattle.replay.specs.declared.error.ReplayError.TheVariants as errors
use Rattle.replay.specs.Output.{BadLine, bad_text, refused_line}

abbrev pub bad_line : ℕ → ℕ → BadLine
bad_line line rule = record { line = line; rule = rule; index_sent = None }

-- a front was written, perhaps all
abbrev pub Fails : Option (List ℕ) → Option (List ℕ) → List ℕ → ReplayError → Type 0
Fails before now text (errors.Malformed line rule) = ⊥
Fails before now text errors.ReadFault = ⊥
Fails before now text errors.WriteFault = AppendsUpTo before now text
Fails before now text errors.NoMemory = AppendsUpTo before now text

-- a front was written, and not all
abbrev pub Misses : Option (List ℕ) → Option (List ℕ) → List ℕ → ReplayError → Type 0
Misses before now text (errors.Malformed line rule) = ⊥
Misses before now text errors.ReadFault = ⊥
Misses before now text errors.WriteFault = AppendsPrefix before now text
Misses before now text errors.NoMemory = AppendsPrefix before now text

-- all was written, or not all
abbrev pub Writes : Option (List ℕ) → Option (List ℕ) → List ℕ → Result (Unit {0}) ReplayError → Type 0
Writes before now text (Ok x) = Appends before now text
Writes before now text (Err e) = Misses before now text e

-- the error line was written and this line is told, or not all was written
abbrev pub Refuses : Option (List ℕ) → Option (List ℕ) → List ℕ → BadLine → ReplayError → Type 0
Refuses before now pending b (errors.Malformed line rule) = (b.line ≡ line) × (b.rule ≡ rule) × Appends before now (pending ++ bad_text b)
Refuses before now pending b errors.ReadFault = ⊥
Refuses before now pending b errors.WriteFault = AppendsPrefix before now (pending ++ bad_text b)
Refuses before now pending b errors.NoMemory = AppendsPrefix before now (pending ++ bad_text b)

-- what is gathered was written and the fault is told, or not all was written
abbrev pub Interrupts : Option (List ℕ) → Option (List ℕ) → List ℕ → ReplayError → Type 0
Interrupts before now pending (errors.Malformed line rule) = ⊥
Interrupts before now pending errors.ReadFault = Appends before now pending
Interrupts before now pending errors.WriteFault = AppendsPrefix before now pending
Interrupts before now pending errors.NoMemory = AppendsPrefix before now pending

-- an error of the reader ends the replay
abbrev pub Stops : Option (List ℕ) → Option (List ℕ) → List ℕ → NextError → ReplayError → Type 0
Stops before now pending (nexts.BadLine line rule) e = Refuses before now pending (bad_line line rule) e
Stops before now pending nexts.ReadFault e = Interrupts before now pending e
Stops before now pending nexts.NoMemory e = Fails before now pending e

-- the text was gathered, and what is gathered was written or stays
pub record Gathered (before now : Option (List ℕ)) (old_pending new_pending text : List ℕ) : Type 0 where
  pub written : List ℕ
  pub wrote : Appends before now written
  pub all : written ++ new_pending ≡ old_pending ++ text

-- or a front of it was written
abbrev pub Gathers : Option (List ℕ) → Option (List ℕ) → List ℕ → List ℕ → List ℕ → Result (Unit {0}) ReplayError → Type 0
Gathers before now old_pending new_pending text (Ok x) = Gathered before now old_pending new_pending text
Gathers before now old_pending new_pending text (Err e) = Fails before now (old_pending ++ text) e

-- the event of this line was refused for this reason, or memory ran out before anything was written
abbrev pub RefusesFor : Option (List ℕ) → Option (List ℕ) → List ℕ → ℕ → StepError → ReplayError → Type 0
RefusesFor before now pending line steps.NoSuchActor e = Refuses before now pending (refused_line line NoSuchActor) e
RefusesFor before now pending line (steps.NoSuchDatagram index sent) e =
    Refuses before now pending (refused_line line (NoSuchDatagram index sent)) e
RefusesFor before now pending line steps.Forged e = Refuses before now pending (refused_line line Forged) e
RefusesFor before now pending line steps.NoMemory e = (e ≡ errors.NoMemory) × (now ≡ before)

-- the event happened; its lines were gathered, and what was gathered is written or stays
pub record Advances (r : Result Happened Refusal) (new : WorldState) (before now : Option (List ℕ))
    (old_pending new_pending : List ℕ) : Type 0 where
  pub lines : List Line
  pub is : r ≡ Ok (record { world = new; lines = lines })
  pub written : List ℕ
  pub wrote : Appends before now written
  pub text : written ++ new_pending ≡ old_pending ++ lines_text lines

abbrev pub RefusesStep : Option (List ℕ) → Option (List ℕ) → List ℕ → ℕ → Result Happened Refusal → ReplayError → Type 0
RefusesStep before now pending line (Ok h) e = Fails before now (pending ++ lines_text h.lines) e
RefusesStep before now pending line (Err refusal) e = Refuses before now pending (refused_line line refusal) e

-- the event of this line is taken, or ends the replay
abbrev pub TakesEvent : Option (List ℕ) → Option (List ℕ) → List ℕ → List ℕ → ℕ → Result Happened Refusal → WorldState
    → Result (Unit {0}) ReplayError → Type 0
TakesEvent before now old_pending new_pending line r new (Ok x) = Advances r new before now old_pending new_pending
TakesEvent before now old_pending new_pending line r new (Err e) = RefusesStep before now old_pending line r e
