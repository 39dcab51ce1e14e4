use Rattle.std.proofs.Common.{ap}
use Rattle.gate.specs.Carrying.{event_of}
use Rattle.gate.proofs.Running.{ran_none, took_is}
use Rattle.gate.proofs.site.Site.take_came.Goals as goal

pub returns-in-None : goal.returns-in-None
returns-in-None g c =
    λ before t. ran_none before _ (took_is _ _ before _ (ap event_of c.in-None.is) t)

pub returns-in-Some : goal.returns-in-Some
returns-in-Some g c =
    λ before t. c.take_event.ensures before (took_is _ _ before _ (ap event_of c.in-Some.is) t)
