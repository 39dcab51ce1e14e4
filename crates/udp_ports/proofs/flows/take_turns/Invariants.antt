use Rattle.udp_ports.proofs.Turning.{AreTurning}
use Rattle.udp_ports.proofs.flows.take_turns.Given as goal

abbrev pub invariant-loop-i : goal.invariant-loop-i
invariant-loop-i g l = AreTurning l.now l.fn.flows l.flows l.i
