use Rattle.std.specs.FinMap as finite
use Rattle.execution_laws.proofs.Accounts.{kept_for-insert}
use Rattle.execution_laws.proofs.examples.worked_log.Goals as goal

pub returns-clause-kept_1 : goal.returns-clause-kept_1
returns-clause-kept_1 c = simp (kept_for-insert, finite.get-empty)

pub returns-clause-kept_2 : goal.returns-clause-kept_2
returns-clause-kept_2 c = simp (kept_for-insert, finite.get-empty)

pub returns-clause-kept_3 : goal.returns-clause-kept_3
returns-clause-kept_3 c = simp (kept_for-insert, finite.get-empty)

pub returns-clause-slot_1 : goal.returns-clause-slot_1
returns-clause-slot_1 c = simp (kept_for-insert, finite.get-empty)

pub returns-clause-slot_3 : goal.returns-clause-slot_3
returns-clause-slot_3 c = simp (kept_for-insert, finite.get-empty)

pub returns-clause-slot_4 : goal.returns-clause-slot_4
returns-clause-slot_4 c = simp (kept_for-insert, finite.get-empty)

pub returns-clause-slot_5 : goal.returns-clause-slot_5
returns-clause-slot_5 c = simp (kept_for-insert, finite.get-empty)
