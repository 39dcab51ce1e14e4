use Rattle.client_reads.proofs.Turns.{asked_once, answered_once}
use Rattle.client_reads.proofs.laws.uses_each_id_once.Goals as goal

pub returns-clause-asked : goal.returns-clause-asked
returns-clause-asked c = asked_once

pub returns-clause-answered : goal.returns-clause-answered
returns-clause-answered c = answered_once
