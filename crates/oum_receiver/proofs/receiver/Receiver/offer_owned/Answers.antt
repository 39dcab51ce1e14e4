use Rattle.std.proofs.Common.{◌≡◌, sym, ap, ◌∙◌}
use Rattle.oum_receiver.specs.declared.verdict.Verdict.TheVariants.{Queued}
use Rattle.oum_receiver.specs.Receiving.{Receiving, verdict_of}
use Rattle.oum_receiver.proofs.Sound.{queued_sound, queued_absent}
use Rattle.oum_receiver.proofs.receiver.Receiver.offer_owned.Goals as goal

pub invariant_of-self : goal.invariant_of-self
invariant_of-self c =
    let r : Receiving = record { session = c.self.inside.session; next = c.self.inside.next; queued = c.self.inside.queue } in
    let verdict : verdict_of r c.args.packet ≡ Queued =
    ap (λ (s : Receiving). verdict_of s c.args.packet) c.self.view_is ∙ sym c.in-Queued.ensures in
    rw c.in_ok-insert.ensures.ok (queued_sound r c.args.packet c.self.invariant c.requires verdict)

pub insert-requires : goal.insert-requires
insert-requires c =
    let r : Receiving = record { session = c.self.inside.session; next = c.self.inside.next; queued = c.self.inside.queue } in
    queued_absent r c.args.packet (ap (λ (s : Receiving). verdict_of s c.args.packet) c.self.view_is ∙ sym c.in-Queued.ensures)
