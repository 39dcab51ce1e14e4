use Rattle.host_list.proofs.Apart.{hosts_kept, clusters_kept, hosts_on_lines}
use Rattle.host_list.proofs.laws.lists_say_what_lines_say.Goals as goal

pub returns-clause-hosts : goal.returns-clause-hosts
returns-clause-hosts c = hosts_kept

pub returns-clause-cluster : goal.returns-clause-cluster
returns-clause-cluster c = clusters_kept

pub returns-clause-nothing_else : goal.returns-clause-nothing_else
returns-clause-nothing_else c = hosts_on_lines
