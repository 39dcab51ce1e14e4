use Rattle.client_quorum.proofs.Recents.{recent_kept, given_found, known}
use Rattle.client_quorum.proofs.Waits.{last_counts}
use Rattle.client_quorum.proofs.laws.knows_recent_requests.Goals as goal

pub returns-clause-count : goal.returns-clause-count
returns-clause-count c = last_counts

pub returns-clause-kept : goal.returns-clause-kept
returns-clause-kept c = recent_kept

pub returns-clause-found : goal.returns-clause-found
returns-clause-found c = given_found

pub returns-clause-others : goal.returns-clause-others
returns-clause-others c = known
