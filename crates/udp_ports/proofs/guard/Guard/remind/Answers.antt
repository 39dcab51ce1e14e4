use Rattle.udp_ports.proofs.GoingOn.{stays}
use Rattle.udp_ports.proofs.guard.Guard.remind.Goals as goal

pub returns-else-not-all : goal.returns-else-not-all
returns-else-not-all g c = stays c.args.self.now
