use Rattle.judge.proofs.LineRows.{runs_are_judged}
use Rattle.judge.proofs.laws.runs_are_judged.Goals as goal

pub returns : goal.returns
returns g c = λ m lines history. runs_are_judged m lines history
