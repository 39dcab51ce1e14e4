use Rattle.std.proofs.Common.{◌≡◌}
use Rattle.tcp_users.proofs.tcp_users.heed_all.Given as goal

abbrev pub invariant-loop-event : goal.invariant-loop-event
invariant-loop-event l = l.connections.opened ≡ l.fn.connections.opened
