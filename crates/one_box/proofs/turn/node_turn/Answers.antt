use Rattle.one_box.specs.Showing.{course_of, links_of}
use Rattle.one_box.proofs.PollingLemmas.{fired_and_polled}
use Rattle.one_box.proofs.turn.node_turn.Goals as goal

pub returns-in-Ok-clause-serves : goal.returns-in-Ok-clause-serves
returns-in-Ok-clause-serves g c =
    let v = links_of g.L.Link in
    fired_and_polled g.H.Host.meaning v c.args.ops.now c.args.now (course_of c.args.course.now) (course_of c.fire_due.new.course)
    (course_of c.poll.new.course) c.args.node.now c.fire_due.new.node c.poll.new.node c.in-Ok.ensures.acts c.poll.result
    c.poll.ensures.serves
