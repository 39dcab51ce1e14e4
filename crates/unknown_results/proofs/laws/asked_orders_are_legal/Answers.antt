use Rattle.unknown_results.proofs.Histories.{asked_is_legal}
use Rattle.unknown_results.proofs.laws.asked_orders_are_legal.Goals as goal

pub returns : goal.returns
returns g c m unknown filled history legal = asked_is_legal m unknown filled history legal
