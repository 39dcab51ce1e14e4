use Rattle.udp_node.proofs.EffectLemmas.{traced_lines}
use Rattle.udp_node.proofs.laws.trace_has_each_step.Goals as goal

pub returns : goal.returns
returns c = traced_lines
