use Rattle.std.proofs.Common.{◌≡◌}
use Rattle.resending.specs.Receiving.{settled}
use Rattle.udp_ports.proofs.EachDone.{first_done}
use Rattle.udp_ports.proofs.link.acknowledge_rest.Given as goal

abbrev pub invariant-loop-lane : goal.invariant-loop-lane
invariant-loop-lane g l = l.receipts ≡ record l.fn.receipts { lanes = first_done settled l.lane l.fn.receipts.lanes }
