-- The line that tells what a judge answered.
use Rattle.std.specs.Prelude.{ℕ, List, [], ◌∷◌, Option, Result, Ok, Err, codes, decimal}
use Rattle.std.specs.Io.KnownBytes.{Appends}
use Rattle.judge.specs.declared.tally.Tally.{Tally}
use Rattle.outside.specs.Prefixes.{AppendsPrefix, AppendsUpTo}
use Rattle.outside.specs.declared.errors.DeviceError.{DeviceError}
use Rattle.outside.specs.declared.errors.DeviceError.TheVariants as faults
use Rattle.transcript_reader.specs.declared.check_error.CheckError.{CheckError}
use Rattle.transcript_reader.specs.declared.check_error.CheckError.TheVariants as errors
use Rattle.transcript_text.specs.LineText.{line_of}

-- none where nothing was decided
unfoldable pub verdict_line : Result Tally CheckError → List ℕ
verdict_line (Ok t) = line_of (codes "legal") (decimal t.submits ∷ decimal t.accepts ∷ decimal t.history ∷ [])
verdict_line (Err (errors.Refuted line clause)) =
    line_of (codes "refuted") (codes "line" ∷ decimal line ∷ codes "clause" ∷ decimal clause ∷ [])
verdict_line (Err errors.ReadFault) = []
verdict_line (Err errors.NoMemory) = []

-- the line was written; at a fault a front that is not all, and without memory a front, perhaps all
abbrev pub WritesVerdict : {T : Type 0} → List ℕ → Result T DeviceError → Option (List ℕ) → Option (List ℕ) → Type 0
WritesVerdict line (Ok t) before now = Appends before now line
WritesVerdict line (Err faults.Failed) before now = AppendsPrefix before now line
WritesVerdict line (Err faults.NoMemory) before now = AppendsUpTo before now line
