use Rattle.network.proofs.FindLemmas.{passed_more, found_here}
use Rattle.network.proofs.network.finding.walk.Goals as goal

pub returns-then-is_datagram : goal.returns-then-is_datagram
returns-then-is_datagram c =
    found_here c.args.wanted.now c.args.bytes.now c.args.marks.now c.loop-i.i c.mark_at.result c.mark_at.ensures c.loop-i.invariant
    c.is_datagram.result c.is_datagram.ensures c.if-is_datagram.true

pub loop-i-preserved : goal.loop-i-preserved
loop-i-preserved c =
    passed_more c.args.wanted.now c.args.bytes.now c.args.marks.now c.loop-i.i c.mark_at.result c.mark_at.ensures c.loop-i.invariant
    c.is_datagram.result c.is_datagram.ensures c.if-is_datagram.false
