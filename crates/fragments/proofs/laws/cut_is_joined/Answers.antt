use Rattle.fragments.proofs.Together.{cut_is_joined}
use Rattle.fragments.proofs.laws.cut_is_joined.Goals as goal

pub returns : goal.returns
returns c = cut_is_joined
