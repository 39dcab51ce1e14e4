use Rattle.lock_host.proofs.TokenLemmas.{tokens_rise}
use Rattle.lock_host.proofs.laws.tokens_rise.Goals as goal

pub returns : goal.returns
returns c = tokens_rise
