use Rattle.std.proofs.Common.{ap}
use Rattle.world.specs.WorldSteps.{crashed_in}
use Rattle.world.proofs.seat.is_crashed.Goals as goal

pub returns-in-Some : goal.returns-in-Some
returns-in-Some g c = ap crashed_in c.in-Some.ensures

pub returns-in-None : goal.returns-in-None
returns-in-None g c = ap crashed_in c.in-None.ensures
