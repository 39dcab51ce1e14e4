use Rattle.oum_receiver.proofs.HandingUp.{hands_up_consecutive}
use Rattle.oum_receiver.proofs.laws.hands_up_consecutive_numbers.Goals as goal

pub returns : goal.returns
returns c = hands_up_consecutive
