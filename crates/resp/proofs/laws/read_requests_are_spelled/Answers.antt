use Rattle.resp.proofs.RequestLemmas.{read_begins}
use Rattle.resp.proofs.laws.read_requests_are_spelled.Goals as goal

pub returns : goal.returns
returns c = read_begins
