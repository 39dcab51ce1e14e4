use Rattle.std.proofs.Common.{rules, refl}
use Rattle.udp_node.proofs.SendLemmas.{sent_one, lost_one, untried}
use Rattle.udp_node.proofs.sending.send_one.Goals as goal

pub returns-in-Ok-clause-sends : goal.returns-in-Ok-clause-sends
returns-in-Ok-clause-sends g c = sent_one _ _ _ c.in-Ok.ensures.ok refl c.in-Ok.ensures.count

pub returns-in-Err-Failed-clause-sends : goal.returns-in-Err-Failed-clause-sends
returns-in-Err-Failed-clause-sends g c = lost_one _ _ _ _ (search rules) (search rules) (search rules)

pub returns-in-Err-NoMemory-clause-sends : goal.returns-in-Err-NoMemory-clause-sends
returns-in-Err-NoMemory-clause-sends g c = untried _ _ _ (search rules) refl (search rules)
