use Rattle.std.proofs.Common.{◌≡◌, ◌++◌, length}
use Rattle.desk.specs.Desks.{fill}
use Rattle.desk.proofs.desk_state.fill.Given as goal

-- going on from here is going on from the start
abbrev pub invariant-loop-core : goal.invariant-loop-core
invariant-loop-core l =
    record {
      cores : (fill l.cores l.queue).cores ≡ (fill l.fn.cores l.fn.queue).cores;
      queue : (fill l.cores l.queue).queue ≡ (fill l.fn.cores l.fn.queue).queue;
      told : l.told.items ++ (fill l.cores l.queue).told ≡ l.fn.told.items ++ (fill l.fn.cores l.fn.queue).told;
    }

abbrev pub decreases-loop-core : goal.decreases-loop-core
decreases-loop-core l = length l.queue
