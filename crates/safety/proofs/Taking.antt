-- Where a step of the real world comes from.
use Rattle.std.proofs.Common.{◌≡◌, Option, Some, None, refl, List}
use Rattle.std.specs.Prelude.{Result, Ok, Err}
use Rattle.nop_types.specs.Given.{Given}
use Rattle.nop_types.specs.declared.output.Out.{Out}
use Rattle.network.specs.Network.{Did}
use Rattle.world.specs.Seats.{Seated, Stimulus, seat_step}
use Rattle.world.specs.WorldSteps.{Happened, Refusal, then_at, step_at}

-- an actor that is there was brought something, and this is what its step makes of the world
pub record Took {S : Type 0} (act : Seated S × Did → Happened) (next : S → Given → S × List Out) (o : Option (Seated S))
    (r : Result Stimulus Refusal) (h : Happened) : Type 0 where
  pub seat : Seated S
  pub there : o ≡ Some seat
  pub what : Stimulus
  pub brought : r ≡ Ok what
  pub gives : act (seat_step next seat what) ≡ h

pub took : {S : Type 0} (act : Seated S × Did → Happened) (next : S → Given → S × List Out) (o : Option (Seated S))
    (r : Result Stimulus Refusal) (h : Happened) → then_at act (step_at next o r) ≡ Ok h → Took act next o r h
took act next None r h e = absurd cc
took act next (Some p) (Err refusal) h e = absurd cc
took act next (Some p) (Ok what) h e = record { seat = p; there = refl; what = what; brought = refl; gives = cc }
