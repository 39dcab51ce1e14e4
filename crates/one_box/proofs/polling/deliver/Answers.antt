use Rattle.std.proofs.Common.{ap}
use Rattle.one_box.specs.Showing.{course_of, links_of}
use Rattle.one_box.proofs.PollingLemmas.{delivered, dropped}
use Rattle.one_box.proofs.polling.deliver.Goals as goal

pub returns-in-Some-clause-acts : goal.returns-in-Some-clause-acts
returns-in-Some-clause-acts g c =
    let v = links_of g.L.Link in
    delivered g.H.Host.meaning v (course_of c.args.course.now) (course_of c.take.new.course) c.args.node.now c.take.new.node c.take.result
    c.args.datagram.now c.in-Some.index c.in-Some.ensures c.take.ensures.acts

pub returns-in-None-clause-acts : goal.returns-in-None-clause-acts
returns-in-None-clause-acts g c =
    let v = links_of g.L.Link in
    let x = c.args.node.now in
    dropped g.H.Host.meaning v (course_of c.args.course.now) _ x x c.args.datagram.now c.in-None.ensures
    (ap (λ n. record (course_of c.args.course.now) { stray = n }) c.saturating_add-course.ensures)
