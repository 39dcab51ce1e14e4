use Rattle.log_merge.proofs.Orders.{merged_of_same, merged_of_permuted}
use Rattle.log_merge.proofs.laws.merged_is_of_pairs.Goals as goal

pub returns-clause-pairs : goal.returns-clause-pairs
returns-clause-pairs c = merged_of_same

pub returns-clause-order : goal.returns-clause-order
returns-clause-order c = merged_of_permuted
