use Rattle.std.proofs.Common.{arith}
use Rattle.network.proofs.MarkLemmas.{put_is}
use Rattle.network.proofs.network.sharing.put_bytes.Goals as goal

pub returns-in-Ok-clause-is : goal.returns-in-Ok-clause-is
returns-in-Ok-clause-is c =
    put_is c.append.new.bytes.items c.put_rest.new.bytes.items c.args.datagram.now c.split_at.result.0.now
    c.split_at.result.1.now c.in_ok-head.head c.in-Ok.rest c.in_ok-len.len c.args.from c.args.dest c.in-Ok.ensures.keeps
    c.in_ok-head.ensures.fits c.in_ok-head.ensures.is c.in-Ok.ensures.is c.split_at.ensures.by_index.0
    (omega (arith, c.in_ok-len.ensures, c.min.ensures, c.split_at.ensures.front_len))
    (omega (arith, c.in_ok-len.ensures, c.min.ensures, c.split_at.ensures.back_len))
