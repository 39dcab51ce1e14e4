use Rattle.replica_log.proofs.Adopted.{adopted_point, length-adopted, adopted_below, adopted_above, adopted_further}
use Rattle.replica_log.proofs.laws.adopted_by_slot.Goals as goal

pub returns-clause-point : goal.returns-clause-point
returns-clause-point c = adopted_point

pub returns-clause-len : goal.returns-clause-len
returns-clause-len c = length-adopted

pub returns-clause-below : goal.returns-clause-below
returns-clause-below c = adopted_below

pub returns-clause-above : goal.returns-clause-above
returns-clause-above c = adopted_above

pub returns-clause-all : goal.returns-clause-all
returns-clause-all c = adopted_further
