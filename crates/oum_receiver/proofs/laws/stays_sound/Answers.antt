use Rattle.oum_receiver.proofs.Sound.{opened_sound, offered_sound, taken_sound, advanced_sound}
use Rattle.oum_receiver.proofs.laws.stays_sound.Goals as goal

pub returns-clause-opened : goal.returns-clause-opened
returns-clause-opened c = opened_sound

pub returns-clause-offered : goal.returns-clause-offered
returns-clause-offered c = offered_sound

pub returns-clause-taken : goal.returns-clause-taken
returns-clause-taken c = taken_sound

pub returns-clause-advanced : goal.returns-clause-advanced
returns-clause-advanced c = advanced_sound
