use Rattle.fragments.proofs.Limits.{few_pieces, has_cut}
use Rattle.fragments.proofs.laws.message_within_limit_is_cut.Goals as goal

pub returns-clause-count : goal.returns-clause-count
returns-clause-count c = few_pieces

pub returns-clause-cut : goal.returns-clause-cut
returns-clause-cut c = has_cut
