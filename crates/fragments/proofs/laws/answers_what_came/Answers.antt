use Rattle.fragments.proofs.Came.{answers_what_came}
use Rattle.fragments.proofs.laws.answers_what_came.Goals as goal

pub returns : goal.returns
returns c = answers_what_came
