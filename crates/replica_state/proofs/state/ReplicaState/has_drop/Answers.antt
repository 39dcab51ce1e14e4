use Rattle.std.proofs.Common.{sym, ap, ◌∙◌, Some}
use Rattle.oum_receiver.specs.Front.{front_given}
use Rattle.replica_state.proofs.Drops.{drop_is_below}
use Rattle.replica_state.proofs.state.ReplicaState.has_drop.Goals as goal

pub returns-in-Some-Drop-clause-more : goal.returns-in-Some-Drop-clause-more
returns-in-Some-Drop-clause-more c =
    let drop = sym c.front.ensures.front ∙ ap front_given (c.in-Some-Drop.is ∙ ap Some c.in-Some-Drop.field-0-is) in
    λ _. drop_is_below c.args.self.now.receiver c.next-next.ensures.sound drop
