use Rattle.nop_types.specs.Ranges.{LogFits}
use Rattle.part_tests.proofs.execution.log_of_slots.Given as goal

abbrev pub invariant-loop-client : goal.invariant-loop-client
invariant-loop-client g l = LogFits l.log
