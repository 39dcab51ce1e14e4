use Rattle.execution_laws.proofs.Members.{repeat_is_no_member, stale_is_no_member}
use Rattle.execution_laws.proofs.histories.repeat_is_no_member.Goals as goal

pub returns-clause-repeated : goal.returns-clause-repeated
returns-clause-repeated c = repeat_is_no_member

pub returns-clause-stale : goal.returns-clause-stale
returns-clause-stale c = stale_is_no_member
