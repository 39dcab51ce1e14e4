use Rattle.std.proofs.Common.{ap, sym, ◌∙◌, ◌∷◌, []}
use Rattle.gate_core.specs.declared.act.Event.{Event}
use Rattle.gate.specs.Carrying.{datagram_of}
use Rattle.gate.proofs.Running.{ran_none, took_is}
use Rattle.gate.proofs.site.Site.take_polled.Goals as goal

pub returns-in-None : goal.returns-in-None
returns-in-None g c =
    λ before t.
    ran_none before _
    (took_is _ _ before _ (ap (datagram_of c.args.self.now.lines.cores c.args.self.now.now c.args.place) c.in-None.is) t)

pub returns-in-Some : goal.returns-in-Some
returns-in-Some g c =
    λ before t.
    c.take_step.ensures before
    (took_is _ _ before _
    (ap (datagram_of c.args.self.now.lines.cores c.args.self.now.now c.args.place) c.in-Some.is
    ∙ ap (λ (e : Event). e ∷ []) (sym c.event_with-event.ensures)) t)
