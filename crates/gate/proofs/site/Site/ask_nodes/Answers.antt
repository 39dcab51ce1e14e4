use Rattle.std.proofs.Common.{refl}
use Rattle.gate.specs.Sides.{links_seen}
use Rattle.gate.proofs.Taking.{all_same}
use Rattle.gate.proofs.site.Site.ask_nodes.Goals as goal

pub returns-in_default-clause-links : goal.returns-in_default-clause-links
returns-in_default-clause-links g c = record { answers = all_same (links_seen g.L.Link c.args.self.now.lines); faults = refl }
