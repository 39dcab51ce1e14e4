use Rattle.std.proofs.Common.{ap, ◌∙◌, nat_le}
use Rattle.admission.specs.declared.own.TheConstants.{ALL_MICROS}
use Rattle.admission.specs.Rounds.{Asking, agree, agreed}
use Rattle.admission.proofs.asking.Admission.agree.Goals as goal

pub returns : goal.returns
returns c =
    c.agreed.ensures
    ∙ (λ i. agreed c.self.inside.own.actor (c.deref.ensures.value i) (nat_le ALL_MICROS (c.saturating_sub.ensures i)))
    ∙ ap (λ (s : Asking). agree s c.args.now) c.self.view_is
