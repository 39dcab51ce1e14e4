use Rattle.refinement.proofs.Clients.{clients_reach}
use Rattle.refinement.proofs.laws.clients_reach.Goals as goal

pub returns : goal.returns
returns g c = clients_reach
