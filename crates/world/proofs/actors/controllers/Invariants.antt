use Rattle.std.proofs.Common.{◌≡◌}
use Rattle.std.specs.Prelude.{map}
use Rattle.session_control.specs.ControllerSteps as controller
use Rattle.world.specs.SeatOutcomes.{seated_of}
use Rattle.world.specs.WorldSteps.{numbered_seats}
use Rattle.world.proofs.actors.controllers.Given as goal

abbrev pub invariant-loop-number : goal.invariant-loop-number
invariant-loop-number l = map (seated_of (λ c. c.state)) l.seats.items ≡ numbered_seats (controller.opening l.config) l.number
