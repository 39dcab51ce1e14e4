-- The arrow of a delivery.
use Rattle.std.specs.Prelude.{ℕ, List, [], ◌∷◌, ◌++◌, if◌then◌else◌}
use Rattle.nop_types.specs.declared.output.Actor.{Actor}
use Rattle.picture.specs.declared.data.Arrow.{Arrow}
use Rattle.picture_arrows.specs.declared.flight.Leg.{Leg}
use Rattle.picture_arrows.specs.Actors.{has}

-- from the actor and the row that sent the datagram to those that take it, faint where this actor had taken it
abbrev pub arrow_of : Leg → List Actor → Actor → ℕ → Arrow
arrow_of leg reached to taken = record
    { purpose = leg.purpose; again = has reached to; from = leg.from; sent = leg.sent; to = to; taken = taken }

-- each actor once
abbrev pub reached_by : List Actor → Actor → List Actor
reached_by reached to = if has reached to then reached else reached ++ to ∷ []
