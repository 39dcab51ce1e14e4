use Rattle.udp_node.proofs.EffectLemmas.{same_calls}
use Rattle.udp_node.proofs.laws.same_is_sent.Goals as goal

pub returns : goal.returns
returns c = same_calls
