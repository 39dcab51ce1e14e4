use Rattle.lock_host.proofs.TokenLemmas.{answers_grants, answers_again}
use Rattle.lock_host.proofs.laws.a_grant_is_answered.Goals as goal

pub returns-clause-grants : goal.returns-clause-grants
returns-clause-grants c = answers_grants

pub returns-clause-again : goal.returns-clause-again
returns-clause-again c = answers_again
