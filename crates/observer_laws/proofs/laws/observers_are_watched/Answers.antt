use Rattle.observer_laws.proofs.Watched.{opens_watched, rows_are_watched, candidates_begin}
use Rattle.observer_laws.proofs.laws.observers_are_watched.Goals as goal

pub returns-clause-opens : goal.returns-clause-opens
returns-clause-opens g c = opens_watched

pub returns-clause-rows : goal.returns-clause-rows
returns-clause-rows g c = λ m. rows_are_watched m

pub returns-clause-candidates : goal.returns-clause-candidates
returns-clause-candidates g c = λ m. candidates_begin m
