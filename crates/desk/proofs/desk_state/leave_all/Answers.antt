use Rattle.std.proofs.Common.{◌<◌, length, arith}
use Rattle.desk.specs.Submitters.{core_left}
use Rattle.desk.proofs.Mapped.{one_mapped}
use Rattle.desk.proofs.desk_state.leave_all.Goals as goal

pub loop-core-preserved : goal.loop-core-preserved
loop-core-preserved c =
    let lt : c.loop-core.core-index < length c.args.cores.now = omega arith in
    rw (c.leave.ensures, c.loop-core.invariant) (one_mapped (core_left c.args.ticket) c.args.cores.now c.loop-core.core-index _ lt)
