use Rattle.std.proofs.Common.{◌≡◌}
use Rattle.tcp_users.proofs.tcp_users.TcpUsers.turns.Given as goal

abbrev pub invariant-loop : goal.invariant-loop
invariant-loop l = (l.self.connections.opened ≡ l.fn.self.connections.opened) × (l.self.faults ≡ l.fn.self.faults)
