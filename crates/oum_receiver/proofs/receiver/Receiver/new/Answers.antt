use Rattle.oum_receiver.proofs.Sound.{opened_sound}
use Rattle.oum_receiver.proofs.receiver.Receiver.new.Goals as goal

pub invariant_of-result : goal.invariant_of-result
invariant_of-result c = rw c.new.ensures (opened_sound c.args.session c.args.next c.requires)
