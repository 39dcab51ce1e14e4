use Rattle.std.proofs.Common.{◌≤◌, length}
use Rattle.tcp_users.proofs.connection.write.Given as goal

abbrev pub invariant-loop : goal.invariant-loop
invariant-loop l = l.sent ≤ length l.bytes
