use Rattle.gate.specs.Sides.{side}
use Rattle.gate.proofs.Running.{ran_same, took_inside}
use Rattle.gate.proofs.site.Site.step_if.Goals as goal

pub returns-then-due : goal.returns-then-due
returns-then-due g c =
    let a = side g.L.Link g.U.Users c.args.self.now c.args.users.now in
    c.take_step.ensures a (took_inside c.args.event a c.requires)

pub returns-else-due : goal.returns-else-due
returns-else-due g c =
    ran_same (side g.L.Link g.U.Users c.args.self.now c.args.users.now)
