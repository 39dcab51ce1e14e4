-- An input without where it lies in memory.
use Rattle.std.specs.Prelude.{ℕ, List}
use Rattle.nop_types.specs.declared.input.Tick.{Tick}
use Rattle.nop_types.specs.declared.input.Input.{Input}
use Rattle.nop_types.specs.declared.input.Input.TheVariants as inputs

pub data Given : Type 0 where
  Packet : List ℕ → Given
  Ticked : Tick → Given
  Submit : List ℕ → Given
  Read : (observer : ℕ) → (key : List ℕ) → Given

abbrev pub given : Input → Given
given (inputs.Packet bytes) = Packet bytes.now
given (inputs.Tick tick) = Ticked tick
given (inputs.Submit op) = Submit op.now
given (inputs.Read observer key) = Read observer key.now
