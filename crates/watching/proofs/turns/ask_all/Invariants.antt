use Rattle.std.proofs.Common.{◌≡◌}
use Rattle.outside.specs.Observed.{Stays}
use Rattle.watching.proofs.turns.ask_all.Given as goal

abbrev pub invariant-loop-place : goal.invariant-loop-place
invariant-loop-place g l = record {
  answers : Stays (g.L.Link.answers l.fn.link) (g.L.Link.answers l.link);
  faults : g.L.Link.fault_count l.link ≡ g.L.Link.fault_count l.fn.link;
  port : g.L.Link.own_port l.link ≡ g.L.Link.own_port l.fn.link;
}
