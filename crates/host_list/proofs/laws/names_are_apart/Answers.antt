use Rattle.host_list.proofs.Apart.{hosts_once, clusters_once}
use Rattle.host_list.proofs.laws.names_are_apart.Goals as goal

pub returns-clause-hosts : goal.returns-clause-hosts
returns-clause-hosts c = hosts_once

pub returns-clause-clusters : goal.returns-clause-clusters
returns-clause-clusters c = clusters_once
