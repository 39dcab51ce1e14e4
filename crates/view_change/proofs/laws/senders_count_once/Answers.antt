use Rattle.view_change.proofs.Senders.{stays_distinct, first_stays, members}
use Rattle.view_change.proofs.laws.senders_count_once.Goals as goal

pub returns-clause-distinct : goal.returns-clause-distinct
returns-clause-distinct g c = stays_distinct

pub returns-clause-first_stays : goal.returns-clause-first_stays
returns-clause-first_stays g c = first_stays

pub returns-clause-members : goal.returns-clause-members
returns-clause-members g c = members
