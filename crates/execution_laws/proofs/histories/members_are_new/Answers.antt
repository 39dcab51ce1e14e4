use Rattle.execution_laws.proofs.Members.{members_are_new}
use Rattle.execution_laws.proofs.histories.members_are_new.Goals as goal

pub returns : goal.returns
returns c = members_are_new
