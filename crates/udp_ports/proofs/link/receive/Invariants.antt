use Rattle.std.proofs.Common.{◌≡◌}
use Rattle.udp_ports.specs.Guards.{MayGoOn}
use Rattle.udp_ports.proofs.link.receive.Given as goal

abbrev pub invariant-loop : goal.invariant-loop
invariant-loop g l = (l.receipts ≡ l.fn.receipts) × ((l.socket.places ≡ l.fn.socket.places) × MayGoOn l.fn.guard l.guard)
