use Rattle.oum_receiver.proofs.Sound.{advanced_sound}
use Rattle.oum_receiver.proofs.receiver.Receiver.advance.Goals as goal

pub invariant_of-self : goal.invariant_of-self
invariant_of-self c =
    rw c.drop_below.ensures (advanced_sound (record {
      session = c.self.inside.session;
      next = c.self.inside.next;
      queued = c.self.inside.queue;
    }) c.args.next c.self.invariant c.requires)
