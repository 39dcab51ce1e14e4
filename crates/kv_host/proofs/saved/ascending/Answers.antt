use Rattle.kv_host.specs.Places.{places, values_of}
use Rattle.kv_host.proofs.RowLemmas.{sorted_entries}
use Rattle.kv_host.proofs.saved.ascending.Goals as goal

pub returns : goal.returns
returns c =
    let sort = c.sort_unstable in
    sorted_entries (values_of (places c.args.table.now)) c.in_ok-rows.rows.items sort.new.self.items c.in_ok-rows.ensures
    sort.ensures.permutation sort.ensures.sorted
