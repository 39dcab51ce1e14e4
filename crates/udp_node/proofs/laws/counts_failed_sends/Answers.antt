use Rattle.std.proofs.Common.{◌∙◌}
use Rattle.udp_node.proofs.RunLemmas.{counted_is}
use Rattle.udp_node.proofs.laws.counts_failed_sends.Goals as goal

pub returns : goal.returns
returns c = λ ds a b sends most. sends.lost ∙ counted_is a.lost sends.tries most
