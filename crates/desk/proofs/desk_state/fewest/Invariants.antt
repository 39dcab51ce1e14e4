use Rattle.std.proofs.Common.{◌≡◌, drop, None}
use Rattle.desk.specs.Desks.{fewest_from}
use Rattle.desk.proofs.desk_state.fewest.Given as goal

abbrev pub invariant-loop-core : goal.invariant-loop-core
invariant-loop-core l = fewest_from l.fewest (drop l.core-index l.cores) ≡ fewest_from None l.cores
