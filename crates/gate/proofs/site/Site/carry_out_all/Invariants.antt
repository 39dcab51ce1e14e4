use Rattle.std.proofs.Common.{◌≡◌}
use Rattle.gate.specs.Sides.{side}
use Rattle.gate.proofs.Running.{MadeUpTo}
use Rattle.gate.proofs.site.Site.carry_out_all.Given as goal

abbrev pub invariant-loop-act : goal.invariant-loop-act
invariant-loop-act g l = record {
  made : MadeUpTo l.fn.acts.items l.act-iterator.rest.items (side g.L.Link g.U.Users l.fn.self l.fn.users) (side g.L.Link g.U.Users l.self l.users);
  state : l.self.state ≡ l.fn.self.state;
}
