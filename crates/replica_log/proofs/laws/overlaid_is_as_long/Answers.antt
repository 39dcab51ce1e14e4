use Rattle.replica_log.proofs.Adopted.{overlaid_point}
use Rattle.replica_log.proofs.InRanges.{length-overlaid_in}
use Rattle.replica_log.proofs.laws.overlaid_is_as_long.Goals as goal

pub returns-clause-point : goal.returns-clause-point
returns-clause-point c k new own = overlaid_point new own

pub returns-clause-len : goal.returns-clause-len
returns-clause-len c = length-overlaid_in
