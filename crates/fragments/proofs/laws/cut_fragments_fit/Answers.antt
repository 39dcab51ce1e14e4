use Rattle.fragments.proofs.Limits.{cut_fragments_fit}
use Rattle.fragments.proofs.laws.cut_fragments_fit.Goals as goal

pub returns : goal.returns
returns c = cut_fragments_fit
