use Rattle.gate.specs.Carrying.{Ran}
use Rattle.gate.specs.Sides.{side}
use Rattle.gate.proofs.serving.take_turns.Given as goal

abbrev pub invariant-loop : goal.invariant-loop
invariant-loop g l = Ran (side g.L.Link g.U.Users l.fn.site l.fn.users) (side g.L.Link g.U.Users l.site l.users)
