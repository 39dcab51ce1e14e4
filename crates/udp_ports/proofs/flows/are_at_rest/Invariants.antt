use Rattle.std.proofs.Common.{◌≡◌, true, take}
use Rattle.std.specs.List.{All}
use Rattle.resending.specs.Sending.{is_at_rest}
use Rattle.udp_ports.proofs.flows.are_at_rest.Given as goal

abbrev pub invariant-loop-flow : goal.invariant-loop-flow
invariant-loop-flow l = All (λ flow. is_at_rest flow ≡ true) (take l.flow-index l.flows)
