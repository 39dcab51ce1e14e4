use Rattle.std.proofs.Common.{List, refl, ap, ◌∙◌}
use Rattle.nop_types.specs.declared.output.Actor.{Actor}
use Rattle.admission.specs.Rounds.{opening}
use Rattle.udp_ports.proofs.GoingOn.{begins}
use Rattle.udp_ports.proofs.guard.Guard.new.Goals as goal

pub returns : goal.returns
returns c =
    begins _ _ c.args.now _ refl
    (c.in_ok-new.ensures
    ∙ ap (λ (xs : List Actor). opening c.args.own xs c.args.now) (c.deref.ensures.value ∙ c.in_ok-nodes.ensures))
    c.new.ensures
