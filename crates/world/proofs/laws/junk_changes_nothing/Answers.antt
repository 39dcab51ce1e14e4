use Rattle.world.proofs.Idle.{junk_changes_nothing}
use Rattle.world.proofs.laws.junk_changes_nothing.Goals as goal

pub returns : goal.returns
returns g c = λ m. junk_changes_nothing m
