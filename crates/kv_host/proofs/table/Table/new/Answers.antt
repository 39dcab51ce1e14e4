use Rattle.std.proofs.Common.{sym}
use Rattle.kv_host.proofs.PlacesLemmas.{count_of-empty}
use Rattle.kv_host.proofs.table.Table.new.Goals as goal

pub invariant_of-result : goal.invariant_of-result
invariant_of-result c = rw c.new.ensures.empty (sym count_of-empty)
