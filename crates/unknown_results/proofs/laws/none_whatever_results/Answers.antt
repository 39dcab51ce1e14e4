use Rattle.unknown_results.proofs.Histories.{none_is_filled}
use Rattle.unknown_results.proofs.laws.none_whatever_results.Goals as goal

pub returns : goal.returns
returns g c m unknown lines none = none_is_filled m unknown lines none
