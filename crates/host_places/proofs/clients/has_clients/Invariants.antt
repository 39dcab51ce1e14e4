use Rattle.host_places.specs.Clients.{HasAll}
use Rattle.host_places.proofs.clients.has_clients.Given as goal

abbrev pub invariant-loop-i : goal.invariant-loop-i
invariant-loop-i l = HasAll l.list l.first l.i
