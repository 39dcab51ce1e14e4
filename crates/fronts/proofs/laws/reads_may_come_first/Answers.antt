use Rattle.fronts.proofs.Reading.{read_comes_first}
use Rattle.fronts.proofs.laws.reads_may_come_first.Goals as goal

pub returns : goal.returns
returns g c m lines k front r once is_front may reads goes = read_comes_first m lines k front r once is_front may reads goes
