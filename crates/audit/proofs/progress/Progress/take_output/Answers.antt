use Rattle.std.proofs.Common.{◌∙◌, sym, ap}
use Rattle.audit_laws.specs.Names.{actor_in}
use Rattle.audit.proofs.Carrying.{output_leads}
use Rattle.audit.proofs.progress.Progress.take_output.Goals as goal

pub returns : goal.returns
returns g c = λ h s shows.
    let is = rw c.in-Some.is at c.actor_in.ensures in
    output_leads g.H.Host.meaning h s c.args.self.now shows c.args.name c.args.gave.now c.in-Some.actor c.in-Some-next.out.now c.pass.new.self
    (ap (λ k. actor_in k c.args.name) (sym c.config.ensures) ∙ sym is) (c.in-Some-next.ensures.next s.actor s.missing shows.missing)
    (sym c.same_actor.ensures ∙ c.if-not-same_actor.false) (sym c.says.ensures ∙ c.if-not-says.false) c.pass.ensures.gave c.pass.ensures.came
