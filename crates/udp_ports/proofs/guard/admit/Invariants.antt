use Rattle.udp_ports.specs.Guards.{Ran, actors_at}
use Rattle.udp_ports.proofs.guard.admit.Given as goal

abbrev pub invariant-loop : goal.invariant-loop
invariant-loop g l = Ran l.fn.own (actors_at l.places) l.guard
