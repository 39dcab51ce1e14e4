use Rattle.std.specs.Prelude.{◌≡◌}
use Rattle.gate.specs.Sides.{links_seen}
use Rattle.gate.proofs.lines.Lines.pass.Given as goal

abbrev pub invariant-loop-core : goal.invariant-loop-core
invariant-loop-core g l = links_seen g.L.Link l.self ≡ links_seen g.L.Link l.fn.self
