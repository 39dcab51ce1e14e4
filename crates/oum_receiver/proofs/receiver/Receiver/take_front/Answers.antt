use Rattle.std.proofs.Common.{◌≢◌, sym, subst}
use Rattle.oum_receiver.specs.Front.{Nothing}
use Rattle.oum_receiver.specs.Receiving.{Receiving, front_of}
use Rattle.oum_receiver.proofs.Sound.{taken_sound}
use Rattle.oum_receiver.proofs.receiver.Receiver.take_front.Goals as goal

pub invariant_of-self : goal.invariant_of-self
invariant_of-self c =
    let r : Receiving = record { session = c.self.inside.session; next = c.self.inside.next; queued = c.self.inside.queue } in
    rw c.remove-request.ensures.after
    (taken_sound r c.self.invariant (subst (λ (s : Receiving). front_of s ≢ Nothing) (sym c.self.view_is) c.requires))
