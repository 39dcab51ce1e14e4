use Rattle.std.proofs.Common.{ap}
use Rattle.gate.specs.Sides.{links_seen, users_seen}
use Rattle.gate.proofs.Running.{runs_from}
use Rattle.gate.proofs.site.Site.ask_if_idle.Goals as goal

pub returns : goal.returns
returns g c =
    runs_from c.step_if.result c.args.self.now.state c.is_idle-due.new.self.state (users_seen g.U.Users c.args.users.now)
    (links_seen g.L.Link c.args.self.now.lines) (links_seen g.L.Link c.is_idle-due.new.self.lines) _
    c.is_idle-due.ensures.state (ap (λ z. links_seen g.L.Link z) c.is_idle-due.ensures.lines) c.step_if.ensures
