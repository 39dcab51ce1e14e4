use Rattle.std.proofs.Common.{refl}
use Rattle.one_box.specs.Showing.{course_of, links_of}
use Rattle.one_box.proofs.TakingLemmas.{takes}
use Rattle.one_box.proofs.taking.take.Goals as goal

pub returns-in-Ok-clause-acts : goal.returns-in-Ok-clause-acts
returns-in-Ok-clause-acts g c =
    let v = links_of g.L.Link in
    let x = c.args.node.now in
    takes g.H.Host.meaning v (course_of c.args.course.now) (course_of c.keep_step.new.course) c.args.event x
    (record { at = x.at; timers = x.timers; next_op = x.next_op; link = c.send_since.new.link; lost = c.send_since.new.lost })
    c.sent_count-count.result c.sent_count-count.ensures refl refl refl c.send_since.ensures.answers c.send_since.result
    c.in-Ok.ensures.steps c.in-Ok.ensures.goes c.send_since.ensures.sends
