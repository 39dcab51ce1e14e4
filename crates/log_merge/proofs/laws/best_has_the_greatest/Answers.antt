use Rattle.log_merge.proofs.Best.{best_is_best}
use Rattle.log_merge.proofs.laws.best_has_the_greatest.Goals as goal

pub returns-clause-some : goal.returns-clause-some
returns-clause-some c = best_is_best
