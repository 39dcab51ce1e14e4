use Rattle.part_tests.proofs.execution.check_checkpoint.Goals as goal

pub checkpoint-requires : goal.checkpoint-requires
checkpoint-requires g c = record {
  run = (c.log_of_slots-log.result, (c.log_of_slots-log.ensures, c.executed_again-executor.ensures));
}
