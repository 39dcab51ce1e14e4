use Rattle.fronts.proofs.Fronts.{no_order}
use Rattle.fronts.proofs.laws.all_histories_begin_empty.Goals as goal

pub returns : goal.returns
returns g c = no_order
