use Rattle.lock_host.proofs.TokenLemmas.{releases_own}
use Rattle.lock_host.proofs.laws.only_the_holder_releases.Goals as goal

pub returns : goal.returns
returns c = releases_own
