use Rattle.host_list.proofs.Apart.{actors_apart}
use Rattle.host_list.proofs.laws.addresses_are_apart.Goals as goal

pub returns : goal.returns
returns c = actors_apart
