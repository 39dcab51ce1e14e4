use Rattle.resending.proofs.Left.{stays}
use Rattle.resending.proofs.laws.others_stay.Goals as goal

pub returns : goal.returns
returns c = stays
