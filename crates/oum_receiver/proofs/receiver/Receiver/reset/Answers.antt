use Rattle.oum_receiver.proofs.Sound.{opened_sound}
use Rattle.oum_receiver.proofs.receiver.Receiver.reset.Goals as goal

pub invariant_of-self : goal.invariant_of-self
invariant_of-self c = rw c.clear.ensures (opened_sound c.args.session c.args.next c.requires)
