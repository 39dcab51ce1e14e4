use Rattle.oum_receiver.proofs.HandingUp.{receivers_agree}
use Rattle.oum_receiver.proofs.laws.receivers_agree.Goals as goal

pub returns : goal.returns
returns c = receivers_agree
