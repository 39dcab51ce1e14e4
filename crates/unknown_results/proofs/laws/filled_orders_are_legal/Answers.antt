use Rattle.unknown_results.proofs.Histories.{filled_is_legal}
use Rattle.unknown_results.proofs.laws.filled_orders_are_legal.Goals as goal

pub returns : goal.returns
returns g c m unknown filled history legal answers = filled_is_legal m unknown filled history legal answers
