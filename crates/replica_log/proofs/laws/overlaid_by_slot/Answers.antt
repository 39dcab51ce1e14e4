use Rattle.replica_log.proofs.Adopted.{overlaid_point, length-overlaid, overlaid_parts}
use Rattle.replica_log.proofs.laws.overlaid_by_slot.Goals as goal

pub returns-clause-point : goal.returns-clause-point
returns-clause-point c = overlaid_point

pub returns-clause-len : goal.returns-clause-len
returns-clause-len c = length-overlaid

pub returns-clause-parts : goal.returns-clause-parts
returns-clause-parts c = overlaid_parts
