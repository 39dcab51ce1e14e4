use Rattle.std.proofs.Common.{refl, subst, Ok}
use Rattle.outside.specs.Links.{Polls}
use Rattle.one_box.specs.declared.node.BoxActor as code
use Rattle.one_box.specs.Showing.{course_of, links_of}
use Rattle.one_box.proofs.PollingLemmas.{silent, received, unpolled}
use Rattle.one_box.proofs.polling.poll.Goals as goal

pub returns-in-Ok-None-clause-serves : goal.returns-in-Ok-None-clause-serves
returns-in-Ok-None-clause-serves g c =
    let v = links_of g.L.Link in
    let x = c.args.node.now in
    let z : code.BoxActor g.row.L.Denot =
    record { at = x.at; timers = c.rearm_due.new.timers; next_op = x.next_op; link = c.poll_link.new.link; lost = c.poll_link.new.lost } in
    silent g.H.Host.meaning v c.args.now (course_of c.args.course.now) (course_of c.args.course.now) x z z refl refl
    c.rearm_due.ensures
    (subst (λ o. Polls (g.L.Link.answers x.link) (g.L.Link.answers c.poll_link.new.link) (Ok o)) c.in-Ok-None.field-0-is
    c.in-Ok-None.ensures.answer) c.in-Ok-None.ensures.polls

pub returns-in-Ok-clause-serves : goal.returns-in-Ok-clause-serves
returns-in-Ok-clause-serves g c =
    let v = links_of g.L.Link in
    let x = c.args.node.now in
    let z : code.BoxActor g.row.L.Denot =
    record { at = x.at; timers = c.rearm_due.new.timers; next_op = x.next_op; link = c.poll_link.new.link; lost = c.poll_link.new.lost } in
    received g.H.Host.meaning v c.args.now (course_of c.args.course.now) (course_of c.deliver.new.course) x z c.deliver.new.node refl refl
    c.rearm_due.ensures c.in-Ok-Some.datagram c.as_slice.result.now c.as_slice.ensures
    (subst (λ o. Polls (g.L.Link.answers x.link) (g.L.Link.answers c.poll_link.new.link) (Ok o)) c.in-Ok-Some.field-0-is
    c.in-Ok-Some.ensures.answer) c.in-Ok-Some.ensures.polls c.in-Ok.ensures.acts

pub returns-clause-serves : goal.returns-clause-serves
returns-clause-serves g c =
    let v = links_of g.L.Link in
    let x = c.args.node.now in
    let z : code.BoxActor g.row.L.Denot =
    record { at = x.at; timers = c.rearm_due.new.timers; next_op = x.next_op; link = c.poll_link.new.link; lost = c.poll_link.new.lost } in
    unpolled g.H.Host.meaning v c.args.now (course_of c.args.course.now) (course_of c.args.course.now) x z z refl refl
    c.rearm_due.ensures c.in-Err.e c.in-Err.ensures.answer c.in-Err.ensures.count
