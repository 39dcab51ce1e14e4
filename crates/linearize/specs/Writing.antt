-- What writing an answer needs, and does.
use Rattle.std.specs.Prelude.{◌<◌, ℕ, ◌+◌, ◌^◌, ⊤, List, Option, Result, Ok, Err, length}
use Rattle.std.specs.Io.KnownBytes.{Appends}
use Rattle.linearize.specs.declared.answer.Answer.{Answer}
use Rattle.linearize.specs.declared.answer.Answer.TheVariants.{Order, NoOrder, Repeated, Unknown}
use Rattle.nop_types.specs.Lines.{Line}
use Rattle.order_search.specs.Turns.{AllSubmit}
use Rattle.outside.specs.Prefixes.{AppendsPrefix, AppendsUpTo}
use Rattle.outside.specs.declared.errors.DeviceError.{DeviceError}
use Rattle.outside.specs.declared.errors.DeviceError.TheVariants as faults
use Rattle.transcript_reader.specs.Claims.{lines_of}
use Rattle.transcript_reader.specs.declared.check_error.CheckError.{CheckError}

-- each of these places is that of a line that submits, and the members can be numbered
pub record CanBeNumbered (lines : List Line) (places : List ℕ) : Type 0 where
  pub submit : AllSubmit lines places
  pub few : length places + 1 < 2 ^ 32

abbrev pub IsWritable : Result Answer CheckError → Type 0
IsWritable (Ok (Order claims places)) = CanBeNumbered (lines_of claims.items) places.items
IsWritable (Ok (NoOrder part line)) = ⊤
IsWritable (Ok (Repeated line)) = ⊤
IsWritable (Ok (Unknown steps)) = ⊤
IsWritable (Err e) = ⊤

-- the text was written; at a fault a front that is not all, and without memory a front, perhaps all
abbrev pub WritesAnswer : {T : Type 0} → List ℕ → Result T DeviceError → Option (List ℕ) → Option (List ℕ) → Type 0
WritesAnswer text (Ok t) before now = Appends before now text
WritesAnswer text (Err faults.Failed) before now = AppendsPrefix before now text
WritesAnswer text (Err faults.NoMemory) before now = AppendsUpTo before now text
