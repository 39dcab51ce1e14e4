use Rattle.gate_core.specs.declared.act.Event.TheVariants as events
use Rattle.gate.specs.Sides.{side}
use Rattle.gate.proofs.Running.{ran_same, took_inside}
use Rattle.gate.proofs.site.Site.read_next.Goals as goal

pub returns-in-None : goal.returns-in-None
returns-in-None g c =
    ran_same (side g.L.Link g.U.Users c.args.self.now c.args.users.now)

pub returns-in-Some : goal.returns-in-Some
returns-in-Some g c =
    let a = side g.L.Link g.U.Users c.args.self.now c.args.users.now in
    c.take_step.ensures a (took_inside (events.Read c.in-Some.user) a tt)
