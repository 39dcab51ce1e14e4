use Rattle.slot_votes.proofs.Members.{members_of_with_vote, with_vote_apart, with_vote_again}
use Rattle.slot_votes.proofs.laws.with_vote_by_member.Goals as goal

pub returns-clause-members : goal.returns-clause-members
returns-clause-members c = members_of_with_vote

pub returns-clause-distinct : goal.returns-clause-distinct
returns-clause-distinct c = with_vote_apart

pub returns-clause-again : goal.returns-clause-again
returns-clause-again c = with_vote_again
