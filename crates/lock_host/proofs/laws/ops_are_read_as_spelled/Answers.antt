use Rattle.lock_host.proofs.ReadLemmas.{reads_spelled, reads_only_spelled}
use Rattle.lock_host.proofs.laws.ops_are_read_as_spelled.Goals as goal

pub returns-clause-read : goal.returns-clause-read
returns-clause-read c = reads_spelled

pub returns-clause-spelled : goal.returns-clause-spelled
returns-clause-spelled c = reads_only_spelled
