use Rattle.observer_laws.proofs.Watched.{watched_read_main}
use Rattle.observer_laws.proofs.laws.watched_read_the_main_log.Goals as goal

pub returns : goal.returns
returns g c = λ m. watched_read_main m
