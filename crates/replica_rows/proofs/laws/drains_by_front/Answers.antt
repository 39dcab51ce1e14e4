use Rattle.replica_rows.proofs.Draining.{drains_by_front}
use Rattle.replica_rows.proofs.laws.drains_by_front.Goals as goal

pub returns : goal.returns
returns g c = λ m k. drains_by_front m k
