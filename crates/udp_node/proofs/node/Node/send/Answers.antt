use Rattle.std.proofs.Common.{rules, refl}
use Rattle.udp_node.proofs.EffectLemmas.{posted}
use Rattle.udp_node.proofs.node.Node.send.Goals as goal

pub returns-in-Ok : goal.returns-in-Ok
returns-in-Ok g c = record {
  idle = refl;
  carries = posted _ _ _ _ (search (rules, c.in-Ok.ensures.sends));
  count = search rules;
  same = search rules;
  unpolled = search rules;
}
