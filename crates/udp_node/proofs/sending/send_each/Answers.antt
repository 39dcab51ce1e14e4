use Rattle.std.proofs.Common.{rules, refl, ◌∙◌}
use Rattle.udp_node.specs.Sends.{side_of}
use Rattle.udp_node.proofs.SendLemmas.{no_sends, one_more, one_less, unpolled_then}
use Rattle.udp_node.proofs.sending.send_each.Goals as goal

pub loop-i-init : goal.loop-i-init
loop-i-init g c = record { sends = no_sends _; unpolled = record { answers = search rules; faults = refl }; port = refl }

pub returns-in_err-send_unless_skipped-clause-sends : goal.returns-in_err-send_unless_skipped-clause-sends
returns-in_err-send_unless_skipped-clause-sends g c =
    let h = one_less c.args.bytes.now c.args.skipped c.args.first c.args.count c.loop-i.i _ _
    (side_of g.L.Link c.send_unless_skipped.new.link c.send_unless_skipped.new.lost)
    c.loop-i-test.true c.loop-i.invariant.sends c.in_err-send_unless_skipped.ensures.sends in
    search (rules, h)

pub loop-i-preserved : goal.loop-i-preserved
loop-i-preserved g c = record {
  sends = one_more c.args.bytes.now c.args.skipped c.args.first c.loop-i.i _ _ _ c.loop-i.invariant.sends
      c.in_ok-send_unless_skipped.ensures.sends;
  unpolled = unpolled_then g.L.Link _ _ _ c.loop-i.invariant.unpolled c.send_unless_skipped.ensures.unpolled;
  port = c.send_unless_skipped.ensures.port ∙ c.loop-i.invariant.port;
}
