use Rattle.lock_host.proofs.TokenLemmas.{held_until_released}
use Rattle.lock_host.proofs.laws.locks_are_held_until_released.Goals as goal

pub returns : goal.returns
returns c = held_until_released
