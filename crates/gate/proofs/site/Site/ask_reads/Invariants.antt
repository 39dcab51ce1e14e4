use Rattle.gate.specs.Carrying.{Ran}
use Rattle.gate.specs.Sides.{side}
use Rattle.gate.proofs.site.Site.ask_reads.Given as goal

abbrev pub invariant-loop-core : goal.invariant-loop-core
invariant-loop-core g l = Ran (side g.L.Link g.U.Users l.fn.self l.fn.users) (side g.L.Link g.U.Users l.self l.users)
