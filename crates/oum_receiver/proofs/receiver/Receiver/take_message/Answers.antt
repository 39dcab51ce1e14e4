use Rattle.std.proofs.Common.{◌∙◌, sym, ap, is_some}
use Rattle.oum_receiver.specs.Front.{request_in}
use Rattle.oum_receiver.specs.Receiving.{Receiving, front_of}
use Rattle.oum_receiver.proofs.Counts.{len_without}
use Rattle.oum_receiver.proofs.Sound.{message_front, message_sound}
use Rattle.oum_receiver.proofs.receiver.Receiver.take_message.Goals as goal

pub invariant_of-self-2 : goal.invariant_of-self-2
invariant_of-self-2 c =
    let r : Receiving = record { session = c.self.inside.session; next = c.self.inside.next; queued = c.self.inside.queue } in
    rw c.remove.ensures.after (message_sound r c.in_ok-request.request c.self.invariant (sym c.in_ok-request.ensures.found))

pub returns-clause-request : goal.returns-clause-request
returns-clause-request c =
    let r : Receiving = record { session = c.self.inside.session; next = c.self.inside.next; queued = c.self.inside.queue } in
    sym (ap (λ (s : Receiving). request_in (front_of s)) (sym c.self.view_is)
    ∙ ap request_in (message_front r c.in_ok-request.request (sym c.in_ok-request.ensures.found)))

pub returns-clause-fewer : goal.returns-clause-fewer
returns-clause-fewer c =
    rw (c.remove.ensures.after, ← c.self.view_is)
    (len_without c.self.inside.queue c.self.inside.next (ap is_some (sym c.in_ok-request.ensures.found)))
