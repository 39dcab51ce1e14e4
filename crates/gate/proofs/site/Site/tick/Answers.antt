use Rattle.gate.specs.Sides.{links_seen, users_seen}
use Rattle.gate.proofs.Running.{runs_untaken}
use Rattle.gate.proofs.site.Site.tick.Goals as goal

pub returns : goal.returns
returns g c =
    runs_untaken c.step_if.result c.args.self.now.state c.ask_nodes.new.self.state (users_seen g.U.Users c.args.users.now)
    (links_seen g.L.Link c.args.self.now.lines) (links_seen g.L.Link c.ask_nodes.new.self.lines) _
    c.ask_nodes.ensures.state c.ask_nodes.ensures.links c.step_if.ensures
