use Rattle.replica_log.proofs.Adopted.{adopted_point}
use Rattle.replica_log.proofs.InRanges.{length-adopted_in}
use Rattle.replica_log.proofs.laws.adopted_is_as_long.Goals as goal

pub returns-clause-point : goal.returns-clause-point
returns-clause-point c k new own = adopted_point new own

pub returns-clause-len : goal.returns-clause-len
returns-clause-len c = length-adopted_in
