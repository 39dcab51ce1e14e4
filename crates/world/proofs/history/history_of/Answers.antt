use Rattle.std.proofs.Common.{[]}
use Rattle.world.proofs.history.history_of.Goals as goal

pub returns : goal.returns
returns c =
    let synchronised = c.in_ok-add_entries.ensures [] c.new-table.ensures c.new-requests.ensures.items in
    (c.in_ok-add_entries-2.ensures c.args.log.synchronised.now synchronised.0 synchronised.1).1
