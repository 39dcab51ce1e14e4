use Rattle.whole_world.proofs.Archives.{archive_opens, archives_go_on}
use Rattle.whole_world.proofs.laws.archives_go_on.Goals as goal

pub returns-clause-opens : goal.returns-clause-opens
returns-clause-opens g c = λ config is. archive_opens config is

pub returns-clause-goes_on : goal.returns-clause-goes_on
returns-clause-goes_on g c = λ m. archives_go_on m
