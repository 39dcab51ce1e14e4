use Rattle.std.proofs.Common.{rules}
use Rattle.udp_node.specs.Sends.{side}
use Rattle.udp_node.proofs.SendLemmas.{Stays_trans}
use Rattle.one_box.proofs.SendingLemmas.{one_since}
use Rattle.one_box.proofs.sending.send_since.Goals as goal

pub loop-i-preserved : goal.loop-i-preserved
loop-i-preserved g c =
    let a = side (g.L.Link.trace c.args.link.now) c.args.lost.now (g.L.Link.loss_count c.args.link.now) in
    let b = side (g.L.Link.trace c.loop-i.link) c.loop-i.lost (g.L.Link.loss_count c.loop-i.link) in
    let d = side (g.L.Link.trace c.send_one.new.link) c.send_one.new.lost (g.L.Link.loss_count c.send_one.new.link) in
    record {
      sends = one_since c.args.at.now c.args.world.now.state.sent c.args.count c.loop-i.i a b d c.loop-i.auto.i c.loop-i.invariant.sends
          c.in_ok-send_one.ensures.sends;
      answers = Stays_trans _ _ _ c.loop-i.invariant.answers c.send_one.ensures.answers;
      faults = search rules;
      port = search rules;
    }
