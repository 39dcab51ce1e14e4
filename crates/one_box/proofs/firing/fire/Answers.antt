use Rattle.std.proofs.Common.{◌≡◌, ◌∙◌, ap, rules}
use Rattle.one_box.specs.Firing.{next_after}
use Rattle.one_box.specs.Showing.{course_of, links_of}
use Rattle.one_box.proofs.FiringLemmas.{fired_none, fired_some, timer_free}
use Rattle.one_box.proofs.firing.fire.Goals as goal

pub returns-in_default-clause-acts : goal.returns-in_default-clause-acts
returns-in_default-clause-acts g c =
    let v = links_of g.L.Link in
    let x = c.args.node.now in
    fired_none g.H.Host.meaning v c.args.ops.now (course_of c.args.course.now) (course_of c.args.course.now) x x c.args.timer c.args.now _
    c.op_at-op.ensures c.in_ok-event.field-0 c.in_ok-event.ensures c.in_default.is

pub take-requires : goal.take-requires
take-requires g c =
    timer_free c.args.course.now.world.state c.args.node.now.at.own _ c.args.timer c.args.now c.in_ok-event.field-0 c.in-Some.event
    c.in_ok-event.ensures c.in-Some.is

pub returns-clause-acts : goal.returns-clause-acts
returns-clause-acts g c =
    let v = links_of g.L.Link in
    let x = c.args.node.now in
    let clients : c.clients.result ≡ c.args.course.now.world.state.config.clients = search rules in
    fired_some g.H.Host.meaning v c.args.ops.now (course_of c.args.course.now) (course_of c.take.new.course) x c.take.new.node c.args.timer
    c.args.now _ c.op_at-op.ensures c.in_ok-event.field-0 c.in_ok-event.ensures c.in-Some.event c.in_ok-node.field-0 c.take.result
    c.in-Some.is (c.in_ok-node.ensures ∙ ap (λ n. next_after c.in-Some.event x.next_op n) clients) c.take.ensures.acts
