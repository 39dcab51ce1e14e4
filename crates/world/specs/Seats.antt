-- An actor: the state of its core, and whether it crashed.
use Rattle.std.specs.Prelude.{Bool, true, false, List, []}
use Rattle.nop_types.specs.Given.{Given}
use Rattle.nop_types.specs.declared.output.Out.{Out}
use Rattle.network.specs.Network.{Did, Nothing, Outputs}

pub record Seated (S : Type 0) : Type 0 where
  pub state : S
  pub crashed : Bool

abbrev pub seated : {S : Type 0} → S → Seated S
seated s = record { state = s; crashed = false }

-- what an event delivers to its actor: an input, or a crash
pub data Stimulus : Type 0 where
  Takes : Given → Stimulus
  Crashes : Stimulus

-- an actor that has not crashed: after a crash its last state stays
abbrev pub moved : {S : Type 0} → (S → Given → S × List Out) → S → Stimulus → Seated S × Did
moved next s (Takes i) = (seated (next s i).0, Outputs (next s i).1)
moved next s Crashes = (record { state = s; crashed = true }, Outputs [])

-- a crashed actor takes no step
abbrev pub moved_if : {S : Type 0} → (S → Given → S × List Out) → Bool → Seated S → Stimulus → Seated S × Did
moved_if next true p what = (p, Nothing)
moved_if next false p what = moved next p.state what

-- one step of an actor
abbrev pub seat_step : {S : Type 0} → (S → Given → S × List Out) → Seated S → Stimulus → Seated S × Did
seat_step next p what = moved_if next p.crashed p what
