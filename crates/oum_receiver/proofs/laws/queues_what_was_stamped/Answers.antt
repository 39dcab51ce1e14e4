use Rattle.oum_receiver.proofs.Stamps.{opened_stamped, offered_stamped, taken_stamped, advanced_stamped, front_stamped}
use Rattle.oum_receiver.proofs.laws.queues_what_was_stamped.Goals as goal

pub returns-clause-opened : goal.returns-clause-opened
returns-clause-opened c = opened_stamped

pub returns-clause-offered : goal.returns-clause-offered
returns-clause-offered c = offered_stamped

pub returns-clause-taken : goal.returns-clause-taken
returns-clause-taken c = taken_stamped

pub returns-clause-advanced : goal.returns-clause-advanced
returns-clause-advanced c = advanced_stamped

pub returns-clause-front : goal.returns-clause-front
returns-clause-front c = front_stamped
