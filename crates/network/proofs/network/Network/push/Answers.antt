use Rattle.std.proofs.Common.{sym}
use Rattle.network.specs.Marks.{all_sent}
use Rattle.network.proofs.FindLemmas.{may_index_after}
use Rattle.network.proofs.MarkLemmas.{length-all_sent}
use Rattle.network.proofs.network.Network.push.Goals as goal

pub invariant_of-self : goal.invariant_of-self
invariant_of-self c =
    let n = c.self.inside in
    let before = all_sent n.bytes.items n.marks.items in
    let after = all_sent c.put.new.bytes.items c.put.new.marks.items in (
      c.put.ensures.fits,
      may_index_after c.put.result n.index c.put.new.index before after (record {
        from = c.args.from;
        dest = c.args.dest;
        bytes = c.args.datagram.now;
      }) _ (sym (length-all_sent n.bytes.items n.marks.items)) c.self.invariant.1 c.put.ensures.noted c.put.ensures.unnoted c.put.ensures.ok
          c.put.ensures.err,
    )
