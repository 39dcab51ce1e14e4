use Rattle.client_quorum.proofs.Turns.{submitted_once, accepted_once}
use Rattle.client_quorum.proofs.laws.uses_each_id_once.Goals as goal

pub returns-clause-submitted : goal.returns-clause-submitted
returns-clause-submitted c = submitted_once

pub returns-clause-accepted : goal.returns-clause-accepted
returns-clause-accepted c = accepted_once
