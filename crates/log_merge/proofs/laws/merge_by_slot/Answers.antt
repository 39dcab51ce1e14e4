use Rattle.log_merge.proofs.Merged.{longest_in_merge, noop_in_merge, request_in_merge}
use Rattle.log_merge.proofs.laws.merge_by_slot.Goals as goal

pub returns-clause-longest : goal.returns-clause-longest
returns-clause-longest c = longest_in_merge

pub returns-clause-noop : goal.returns-clause-noop
returns-clause-noop c = noop_in_merge

pub returns-clause-request : goal.returns-clause-request
returns-clause-request c = request_in_merge
