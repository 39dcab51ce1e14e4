use Rattle.std.proofs.Common.{ap, ◌∙◌}
use Rattle.view_change.specs.Gathering.{has_sender, change_sender}
use Rattle.view_change.proofs.Senders.{pushed_distinct}
use Rattle.view_change.proofs.changes.Changes.on_change.Goals as goal

pub invariant_of-self-2 : goal.invariant_of-self-2
invariant_of-self-2 c =
    let none = c.has_sender.ensures ∙ ap (λ cs. has_sender change_sender cs c.args.change.sender) c.deref.ensures.value in
    pushed_distinct c.self.inside.changes.items c.push.new.self.items c.args.change c.has_sender.result c.self.invariant none
    c.if-has_sender.false c.in_ok-push.ensures.items

pub invariant_of-self-else-is_err : goal.invariant_of-self-else-is_err
invariant_of-self-else-is_err c =
    let none = c.has_sender.ensures ∙ ap (λ cs. has_sender change_sender cs c.args.change.sender) c.deref.ensures.value in
    pushed_distinct c.self.inside.changes.items c.push.new.self.items c.args.change c.has_sender.result c.self.invariant none
    c.if-has_sender.false c.in_ok-push.ensures.items
