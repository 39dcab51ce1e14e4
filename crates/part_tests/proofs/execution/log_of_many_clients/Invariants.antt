use Rattle.nop_types.specs.Ranges.{LogFits}
use Rattle.part_tests.proofs.execution.log_of_many_clients.Given as goal

abbrev pub invariant-loop-client : goal.invariant-loop-client
invariant-loop-client g l = LogFits l.log

abbrev pub invariant-loop-client-2 : goal.invariant-loop-client-2
invariant-loop-client-2 g l = LogFits l.log
