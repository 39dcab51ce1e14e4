use Rattle.std.proofs.Common.{◌≡◌}
use Rattle.std.specs.Prelude.{map}
use Rattle.world.specs.SeatOutcomes.{seated_of}
use Rattle.world.specs.WorldSteps.{numbered_seats, opening_client}
use Rattle.world.proofs.actors.clients.Given as goal

abbrev pub invariant-loop-number : goal.invariant-loop-number
invariant-loop-number l = map (seated_of (λ c. c.state)) l.seats.items ≡ numbered_seats (opening_client l.config) l.number
