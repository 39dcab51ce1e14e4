use Rattle.std.proofs.Common.{rules, ◌<◌, length}
use Rattle.service_load.proofs.LoadLemmas.{noted}
use Rattle.service_load.proofs.tally.Tally.note_all.Goals as goal

pub loop-one-preserved : goal.loop-one-preserved
loop-one-preserved c =
    let some : c.loop-one.one-index < length c.args.told.now = search rules in
    noted c.args.told.now c.loop-one.one-index _ _ _ c.one-item.result some c.one-item.is c.loop-one.invariant c.in_ok-note.ensures
