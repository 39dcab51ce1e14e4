use Rattle.admission.proofs.Admitted.{asks_first, claims_behind}
use Rattle.admission.proofs.laws.claims_come_after_asks.Goals as goal

pub returns-clause-asks : goal.returns-clause-asks
returns-clause-asks c = asks_first

pub returns-clause-claims : goal.returns-clause-claims
returns-clause-claims c = claims_behind
