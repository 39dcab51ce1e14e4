-- What the lines of a run say.
use Rattle.std.specs.Prelude.{ℕ, List}
use Rattle.nop_types.specs.declared.output.Actor.{Actor}
use Rattle.nop_types.specs.declared.output.Dest.{Dest}
use Rattle.nop_types.specs.declared.request.Request.{Request}

-- an event came to a crashed actor; or one line for each output of a step, a send with its place among all sends
pub data Line : Type 0 where
  Dead : Actor → Line
  Submit : Request → Line
  Accept : (client id : ℕ) → (result : List ℕ) → Line
  Busy : (client : ℕ) → Line
  Read : (client id observer : ℕ) → (key : List ℕ) → Line
  Answer : (client id observer position : ℕ) → (result : List ℕ) → Line
  Send : (index : ℕ) → (from : Actor) → (dest : Dest) → (datagram : List ℕ) → Line
