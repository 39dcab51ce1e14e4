use Rattle.oum_receiver.proofs.HandingUp.{hands_up_offered}
use Rattle.oum_receiver.proofs.laws.hands_up_what_was_offered.Goals as goal

pub returns : goal.returns
returns c = hands_up_offered
