use Rattle.replica_core.proofs.Ignoring.{gap_rests, found_rests, prepare_rests, begin_rests, commit_rests, leader_rests}
use Rattle.replica_core.proofs.laws.rows_rest_at_limits.Goals as goal

pub returns-clause-gap : goal.returns-clause-gap
returns-clause-gap g c = λ m. gap_rests m

pub returns-clause-found : goal.returns-clause-found
returns-clause-found g c = λ m. found_rests m

pub returns-clause-prepare : goal.returns-clause-prepare
returns-clause-prepare g c = λ m. prepare_rests m

pub returns-clause-begin : goal.returns-clause-begin
returns-clause-begin g c = λ m. begin_rests m

pub returns-clause-commit : goal.returns-clause-commit
returns-clause-commit g c = λ m. commit_rests m

pub returns-clause-leader : goal.returns-clause-leader
returns-clause-leader g c = λ m. leader_rests m
