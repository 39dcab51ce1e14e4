use Rattle.oum_receiver.specs.Table.{map_of}
use Rattle.oum_receiver.proofs.Apart.{kept_beside, kept_stays}
use Rattle.oum_receiver.proofs.queue.Queue.drop_below.Goals as goal

pub invariant_of-self : goal.invariant_of-self
invariant_of-self c =
    rw (c.drop_apart_below.ensures, c.drop_below.ensures)
    (kept_stays c.self.inside.apart (map_of c.self.inside.table.entries) c.args.next c.self.invariant)

pub returns : goal.returns
returns c =
    rw (c.drop_apart_below.ensures, c.drop_below.ensures, ← c.self.view_is)
    (kept_beside c.self.inside.apart (map_of c.self.inside.table.entries) c.args.next)
