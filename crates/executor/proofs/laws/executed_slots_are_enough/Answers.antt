use Rattle.executor.proofs.PrefixLemmas.{on_prefix, on_append, on_slot}
use Rattle.executor.proofs.laws.executed_slots_are_enough.Goals as goal

pub returns-clause-prefix : goal.returns-clause-prefix
returns-clause-prefix g c = on_prefix

pub returns-clause-append : goal.returns-clause-append
returns-clause-append g c = on_append

pub returns-clause-slot : goal.returns-clause-slot
returns-clause-slot g c = on_slot
