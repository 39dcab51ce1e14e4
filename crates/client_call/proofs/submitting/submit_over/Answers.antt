use Rattle.std.proofs.Common.{Some}
use Rattle.udp_node.specs.Sends.{side}
use Rattle.client_call.specs.Sessions.{address_in}
use Rattle.client_call.proofs.LoneRequests.{none_open}
use Rattle.client_call.proofs.Sessions.{answers_op, goes_on}
use Rattle.client_call.proofs.SessionEnds.{turns_before, turns_failed, turns_served}
use Rattle.client_call.proofs.submitting.submit_over.Goals as goal

pub returns-then-has_failed-clause-over : goal.returns-then-has_failed-clause-over
returns-then-has_failed-clause-over g c =
    turns_before (address_in c.args.base c.args.core.now.state) c.args.core.now.state c.args.op.now c.args.turns
    (g.L.Link.answers c.args.link.now) (g.C.Clock.values c.args.clock.now) (g.L.Link.trace c.args.link.now)
    (g.L.Link.loss_count c.args.link.now)

pub returns-in-Ok-clause-answers : goal.returns-in-Ok-clause-answers
returns-in-Ok-clause-answers g c =
    answers_op (address_in c.args.base c.args.core.now.state) c.args.core.now.state c.serve.new.core.state c.args.op.now
    (Some c.new-sink.result.held) (Some c.serve.new.sink.held) (c.has_failed.ensures.run c.if-has_failed.false)
    (rw (c.address_in-at.ensures, c.first_of-first.ensures, c.await_next.ensures) at c.in-Ok.ensures.took)
    c.accepted.result c.accepted.ensures

pub returns-in-Ok-clause-goes_on : goal.returns-in-Ok-clause-goes_on
returns-in-Ok-clause-goes_on g c =
    goes_on (address_in c.args.base c.args.core.now.state) c.args.core.now.state c.serve.new.core.state c.args.op.now
    (Some c.new-sink.result.held) (Some c.serve.new.sink.held) (c.has_failed.ensures.run c.if-has_failed.false)
    (rw (c.address_in-at.ensures, c.first_of-first.ensures, c.await_next.ensures) at c.in-Ok.ensures.took)
    c.accepted.result c.accepted.ensures

pub returns-in-Ok-clause-none_open : goal.returns-in-Ok-clause-none_open
returns-in-Ok-clause-none_open g c =
    none_open (address_in c.args.base c.args.core.now.state) c.args.core.now.state c.serve.new.core.state c.args.op.now
    (Some c.new-sink.result.held) (Some c.serve.new.sink.held) (c.has_failed.ensures.run c.if-has_failed.false)
    (rw (c.address_in-at.ensures, c.first_of-first.ensures, c.await_next.ensures) at c.in-Ok.ensures.took)
    c.accepted.result c.accepted.ensures

pub returns-in-Ok-clause-over : goal.returns-in-Ok-clause-over
returns-in-Ok-clause-over g c =
    turns_served (address_in c.args.base c.args.core.now.state) c.args.core.now.state c.serve.new.core.state c.args.op.now c.args.turns
    (Some c.new-sink.result.held) (Some c.serve.new.sink.held)
    (side (g.L.Link.trace c.args.link.now) 0 (g.L.Link.loss_count c.args.link.now))
    (side (g.L.Link.trace c.serve.new.link) 0 (g.L.Link.loss_count c.serve.new.link))
    (g.L.Link.answers c.args.link.now) (g.C.Clock.values c.args.clock.now) c.in-Ok._served
    (rw (c.address_in-at.ensures, c.first_of-first.ensures, c.await_next.ensures) at c.in-Ok.ensures.run)
    c.in-Ok.ensures.done c.in-Ok.ensures.spent c.accepted.result c.accepted.ensures

pub returns-clause-over : goal.returns-clause-over
returns-clause-over g c =
    rw c.error_of.ensures (turns_failed (address_in c.args.base c.args.core.now.state) c.args.core.now.state c.serve.new.core.state
    c.args.op.now c.args.turns (Some c.new-sink.result.held) (Some c.serve.new.sink.held)
    (side (g.L.Link.trace c.args.link.now) 0 (g.L.Link.loss_count c.args.link.now))
    (side (g.L.Link.trace c.serve.new.link) 0 (g.L.Link.loss_count c.serve.new.link))
    (g.L.Link.answers c.args.link.now) (g.C.Clock.values c.args.clock.now) c.in-Err.e
    (rw (c.address_in-at.ensures, c.first_of-first.ensures, c.await_next.ensures) at c.in-Err.ensures.run))
