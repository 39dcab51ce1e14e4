-- What a buffer takes from a source.
use Rattle.std.specs.Prelude.{◌≡◌, ℕ, List, ◌++◌, length, Option, Result, Ok, Err}
use Rattle.line_reader.specs.declared.read_error.ReadError.{ReadError}
use Rattle.line_reader.specs.declared.read_error.ReadError.TheVariants.{ReadFault, NoMemory}
use Rattle.std.specs.Io.KnownBytes.{Consumes, Keeps, IsAtEnd}

-- `count` bytes went from the source to the end of the buffer
pub record Fills (before left : Option (List ℕ)) (old new : List ℕ) (count : ℕ) : Type 0 where
  pub piece : List ℕ
  pub counted : length piece ≡ count
  pub bytes : new ≡ old ++ piece
  pub taken : Consumes before left piece
  pub end : count ≡ 0 → IsAtEnd left

abbrev pub FillsFrom : Option (List ℕ) → Option (List ℕ) → List ℕ → List ℕ → Result ℕ ReadError → Type 0
FillsFrom before left old new (Ok count) = Fills before left old new count
FillsFrom before left old new (Err ReadFault) = (new ≡ old) × Keeps before left
FillsFrom before left old new (Err NoMemory) = (new ≡ old) × Keeps before left
