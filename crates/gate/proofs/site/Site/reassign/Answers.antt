use Rattle.std.proofs.Common.{refl}
use Rattle.gate.specs.Sides.{links_seen, users_seen}
use Rattle.gate.proofs.Running.{runs_from}
use Rattle.gate.proofs.site.Site.reassign.Goals as goal

pub returns : goal.returns
returns g c =
    runs_from c.step_if.result c.args.self.now.state c.args.self.now.state (users_seen g.U.Users c.args.users.now)
    (links_seen g.L.Link c.args.self.now.lines) (links_seen g.L.Link c.is_overdue-due.new.self) _ refl c.is_overdue-due.ensures
    c.step_if.ensures
