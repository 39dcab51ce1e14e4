use Rattle.network_laws.proofs.Networks.{others_network}
use Rattle.network_laws.proofs.Replicas.{stays_in_network, other_in_network}
use Rattle.network_laws.proofs.laws.network_goes_on.Goals as goal

pub returns-clause-network : goal.returns-clause-network
returns-clause-network c = others_network

pub returns-clause-replica : goal.returns-clause-replica
returns-clause-replica c = stays_in_network

pub returns-clause-other : goal.returns-clause-other
returns-clause-other c = other_in_network
