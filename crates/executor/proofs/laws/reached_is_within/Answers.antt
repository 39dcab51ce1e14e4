use Rattle.executor.proofs.PrefixLemmas.{reached_within}
use Rattle.executor.proofs.laws.reached_is_within.Goals as goal

pub returns : goal.returns
returns g c = reached_within
