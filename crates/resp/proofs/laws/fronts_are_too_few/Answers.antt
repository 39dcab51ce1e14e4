use Rattle.resp.proofs.RequestLemmas.{read_front, front_read}
use Rattle.resp.proofs.laws.fronts_are_too_few.Goals as goal

pub returns-clause-front : goal.returns-clause-front
returns-clause-front c = front_read

pub returns-clause-few : goal.returns-clause-few
returns-clause-few c = read_front
