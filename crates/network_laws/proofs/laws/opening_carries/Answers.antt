use Rattle.network_laws.proofs.Networks.{opening_network}
use Rattle.network_laws.proofs.Replicas.{opening_in_network}
use Rattle.network_laws.proofs.laws.opening_carries.Goals as goal

pub returns-clause-network : goal.returns-clause-network
returns-clause-network c = opening_network

pub returns-clause-replica : goal.returns-clause-replica
returns-clause-replica c = opening_in_network
