use Rattle.fragments.proofs.Limits.{fitting_is_in_range}
use Rattle.fragments.proofs.laws.fitting_is_in_range.Goals as goal

pub returns : goal.returns
returns c = fitting_is_in_range
