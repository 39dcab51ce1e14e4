use Rattle.std.proofs.Common.{◌≡◌, ◌+◌, ◌-◌, ◌++◌}
use Rattle.desk.specs.Desks.{cores_from}
use Rattle.desk.proofs.desk_state.cores_from.Given as goal

abbrev pub invariant-loop-i : goal.invariant-loop-i
invariant-loop-i l = l.cores.items ++ cores_from l.config (l.first + l.i) (l.count - l.i) ≡ cores_from l.config l.first l.count
