use Rattle.lemmas.proofs.Slots.{length-laid, slot_of-laid_below, slot_of-laid_above}
use Rattle.replica_log.proofs.laws.laid_by_slot.Goals as goal

pub returns-clause-len : goal.returns-clause-len
returns-clause-len c = length-laid

pub returns-clause-prefix : goal.returns-clause-prefix
returns-clause-prefix c = slot_of-laid_below

pub returns-clause-above : goal.returns-clause-above
returns-clause-above c = slot_of-laid_above
