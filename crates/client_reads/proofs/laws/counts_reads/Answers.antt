use Rattle.client_reads.proofs.Counts.{last_counts, all_answered, one_waits}
use Rattle.client_reads.proofs.laws.counts_reads.Goals as goal

pub returns-clause-last : goal.returns-clause-last
returns-clause-last c = last_counts

pub returns-clause-done : goal.returns-clause-done
returns-clause-done c = all_answered

pub returns-clause-waits : goal.returns-clause-waits
returns-clause-waits c = one_waits
