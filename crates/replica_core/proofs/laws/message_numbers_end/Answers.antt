use Rattle.replica_core.proofs.Ignoring.{row_ends, numbers_below}
use Rattle.replica_core.proofs.laws.message_numbers_end.Goals as goal

pub returns-clause-ends : goal.returns-clause-ends
returns-clause-ends g c = λ m. row_ends m

pub returns-clause-below : goal.returns-clause-below
returns-clause-below g c = λ m. numbers_below m
