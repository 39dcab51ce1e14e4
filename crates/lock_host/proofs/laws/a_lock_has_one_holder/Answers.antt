use Rattle.lock_host.proofs.TokenLemmas.{one_holder, one_lock}
use Rattle.lock_host.proofs.laws.a_lock_has_one_holder.Goals as goal

pub returns-clause-holder : goal.returns-clause-holder
returns-clause-holder c = one_holder

pub returns-clause-lock : goal.returns-clause-lock
returns-clause-lock c = one_lock
