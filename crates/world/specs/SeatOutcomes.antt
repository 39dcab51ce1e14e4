-- What a call on a seat of the code did.
use Rattle.std.specs.Prelude.{◌≡◌, ℕ, List, map, Option, Result, Ok, Err, slice_set}
use Rattle.nop_types.specs.Given.{Packet, given}
use Rattle.nop_types.specs.declared.output.Out.{Out}
use Rattle.world.specs.declared.seat.Seat.{Seat}
use Rattle.world.specs.declared.step_error.StepError.{StepError}
use Rattle.world.specs.declared.step_error.StepError.TheVariants as errors
use Rattle.world.specs.declared.stimulus.Stimulus as declared
use Rattle.world.specs.declared.stimulus.Stimulus.TheVariants as stimuli
use Rattle.world.specs.Seats.{Seated, Stimulus, Takes, Crashes}
use Rattle.network.specs.Network.{Did, did_of}
use Rattle.world.specs.WorldSteps.{Refusal, NoSuchActor, NoSuchDatagram, Forged}

abbrev pub seated_of : {C S : Type 0} → (C → S) → Seat C → Seated S
seated_of state p = record { state = state p.core; crashed = p.crashed }

-- a stimulus without where its input lies in memory
abbrev pub owned : declared.Stimulus → Stimulus
owned (stimuli.Input input) = Takes (given input)
owned (stimuli.Datagram bytes) = Takes (Packet bytes)
owned stimuli.Crash = Crashes

-- the seat is what the definition says, and so are the outputs
abbrev pub Moves : {C S : Type 0} → (C → S) → Result (Seated S × Did) Refusal → Seat C → Option (List Out) → Type 0
Moves state r new outs = r ≡ Ok (seated_of state new, did_of outs)

-- the same of the seat at a place, and the others stay
pub record MovesAt {C S : Type 0} (state : C → S) (r : Result (Seated S × Did) Refusal) (old : List (Seat C)) (i : ℕ)
    (new : List (Seat C)) (outs : Option (List Out)) : Type 0 where
  pub seat : Seated S
  pub is : r ≡ Ok (seat, did_of outs)
  pub moved : map (seated_of state) new ≡ slice_set (map (seated_of state) old) i seat

-- the error is the refusal and nothing changed, or memory ran out
abbrev pub Refuses : {A : Type 0} → StepError → Result A Refusal → Type 0 → Type 0
Refuses (errors.NoSuchDatagram index sent) r same = (r ≡ Err (NoSuchDatagram index sent)) × same
Refuses errors.NoSuchActor r same = (r ≡ Err NoSuchActor) × same
Refuses errors.Forged r same = (r ≡ Err Forged) × same
Refuses errors.NoMemory r same = Unit {0}
