use Rattle.whole_world.proofs.Trimming.{safe_can_trim, whole_can_trim}
use Rattle.whole_world.proofs.laws.whole_can_trim.Goals as goal

pub returns-clause-events : goal.returns-clause-events
returns-clause-events g c = λ m. whole_can_trim m

pub returns-clause-safe : goal.returns-clause-safe
returns-clause-safe g c = λ m. safe_can_trim m
