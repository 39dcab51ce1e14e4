use Rattle.gate.specs.Carrying.{Ran}
use Rattle.gate.specs.Sides.{side}
use Rattle.gate.proofs.site.Site.take_all_datagrams.Given as goal

abbrev pub invariant-loop-place : goal.invariant-loop-place
invariant-loop-place g l = Ran (side g.L.Link g.U.Users l.fn.self l.fn.users) (side g.L.Link g.U.Users l.self l.users)
