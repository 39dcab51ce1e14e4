use Rattle.gate.specs.Sides.{links_seen, side}
use Rattle.gate.proofs.Running.{ended_none}
use Rattle.gate.proofs.site.Site.take_next.Goals as goal

pub returns-in-Ok : goal.returns-in-Ok
returns-in-Ok g c =
    c.take_came.ensures (side g.L.Link g.U.Users c.args.self.now c.args.users.now)
    (c.in-Ok.ensures c.args.self.now.state (links_seen g.L.Link c.args.self.now.lines))

pub returns-in-Err : goal.returns-in-Err
returns-in-Err g c =
    ended_none c.in-Err.e _ _ (c.in-Err.ensures c.args.self.now.state (links_seen g.L.Link c.args.self.now.lines))
