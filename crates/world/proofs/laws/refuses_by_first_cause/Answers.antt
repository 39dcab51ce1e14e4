use Rattle.world.proofs.Refusals.{opening_has_actors, step_has_actors, refuses_by_cause}
use Rattle.world.proofs.laws.refuses_by_first_cause.Goals as goal

pub returns-clause-opens : goal.returns-clause-opens
returns-clause-opens g c = opening_has_actors

pub returns-clause-stays : goal.returns-clause-stays
returns-clause-stays g c = λ m. step_has_actors m

pub returns-clause-causes : goal.returns-clause-causes
returns-clause-causes g c = λ m. refuses_by_cause m
