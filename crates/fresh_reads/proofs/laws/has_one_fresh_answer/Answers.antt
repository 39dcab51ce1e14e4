use Rattle.fresh_reads.proofs.FreshAnswers.{one_fresh, none_fresh}
use Rattle.fresh_reads.proofs.laws.has_one_fresh_answer.Goals as goal

pub returns-clause-done : goal.returns-clause-done
returns-clause-done c = one_fresh

pub returns-clause-not_done : goal.returns-clause-not_done
returns-clause-not_done c = none_fresh
