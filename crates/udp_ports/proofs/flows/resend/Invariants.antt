use Rattle.std.proofs.Common.{◌≡◌}
use Rattle.udp_ports.specs.Turns.{all_resent}
use Rattle.udp_ports.proofs.flows.resend.Given as goal

abbrev pub invariant-loop-i : goal.invariant-loop-i
invariant-loop-i g l = l.flow ≡ all_resent l.i l.fn.flow
