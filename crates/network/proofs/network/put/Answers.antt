use Rattle.network.proofs.MarkLemmas.{all_pushed}
use Rattle.network.proofs.network.put.Goals as goal

pub returns-in-Ok-clause-ok : goal.returns-in-Ok-clause-ok
returns-in-Ok-clause-ok c =
    all_pushed c.args.bytes.now.items c.put_bytes.new.bytes.items c.args.marks.now.items c.put_mark.new.marks.items c.in_ok-mark.mark
    (record { from = c.args.from; dest = c.args.dest; bytes = c.args.datagram.now }) c.in_ok-mark.ensures.keeps c.requires
    c.in-Ok.ensures.ok c.in_ok-mark.ensures.is
