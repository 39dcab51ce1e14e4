use Rattle.pairs.proofs.StopLemmas.{no_order}
use Rattle.pairs.proofs.laws.groundless_lines_have_no_order.Goals as goal

pub returns : goal.returns
returns g c = no_order
