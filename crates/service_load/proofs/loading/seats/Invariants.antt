use Rattle.std.proofs.Common.{◌≡◌, length}
use Rattle.service_load.proofs.loading.seats.Given as goal

abbrev pub invariant-loop-i : goal.invariant-loop-i
invariant-loop-i l = length l.seats.items ≡ l.i
