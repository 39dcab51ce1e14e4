use Rattle.kv_host.proofs.PlacesLemmas.{values_of-empty}
use Rattle.kv_host.proofs.host.KvHostHost.fresh.Goals as goal

pub returns : goal.returns
returns c = rw c.new.ensures values_of-empty
