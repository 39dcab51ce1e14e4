use Rattle.refinement.proofs.SentRanges.{datagrams_fit}
use Rattle.refinement.proofs.ranges.datagrams_fit.Goals as goal

pub returns : goal.returns
returns c = datagrams_fit
