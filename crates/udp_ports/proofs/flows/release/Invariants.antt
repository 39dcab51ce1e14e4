use Rattle.std.proofs.Common.{◌≡◌}
use Rattle.udp_ports.specs.Turns.{sent}
use Rattle.udp_ports.proofs.flows.release.Given as goal

abbrev pub invariant-loop-i : goal.invariant-loop-i
invariant-loop-i g l = l.flow ≡ sent l.i l.fn.flow
