use Rattle.std.proofs.Common.{◌≡◌}
use Rattle.desk.specs.Submitters.{core_left}
use Rattle.desk.proofs.Mapped.{mapped_to}
use Rattle.desk.proofs.desk_state.leave_all.Given as goal

abbrev pub invariant-loop-core : goal.invariant-loop-core
invariant-loop-core l = l.cores ≡ mapped_to (core_left l.ticket) l.core-index l.initial.cores
