use Rattle.std.proofs.Common.{◌≡◌, ap}
use Rattle.one_box.specs.Showing.{course_of}
use Rattle.one_box.proofs.LeadingLemmas.{kept_steps, kept_goes}
use Rattle.one_box.proofs.TakingLemmas.{refused_steps, refused_goes}
use Rattle.one_box.proofs.taking.keep_step.Goals as goal

pub returns-in-Ok-clause-steps : goal.returns-in-Ok-clause-steps
returns-in-Ok-clause-steps g c =
    kept_steps g.H.Host.meaning (course_of c.args.course.now) (course_of c.keep.new.self) c.args.event c.step.new.self.state c.in-Ok.lines
    c.in-Ok.ensures.ok c.keep.result c.keep.ensures.kept

pub returns-in-Ok-clause-goes : goal.returns-in-Ok-clause-goes
returns-in-Ok-clause-goes g c =
    kept_goes g.H.Host.meaning (course_of c.args.course.now) (course_of c.keep.new.self) c.args.event c.step.new.self.state c.in-Ok.lines
    c.in-Ok.ensures.ok c.keep.result c.keep.ensures.kept c.in-Ok.ensures.fits c.requires

pub returns-in-Err-clause-steps : goal.returns-in-Err-clause-steps
returns-in-Err-clause-steps g c =
    let x = course_of c.args.course.now in
    refused_steps g.H.Host.meaning c.args.event x _ (c.step.new.self ≡ c.args.course.now.world)
    (λ same. ap (λ w. record x { world = w.state }) same) c.in-Err.e c.in-Err.ensures.err c.refused.result c.refused.ensures.ok

pub returns-in-Err-clause-goes : goal.returns-in-Err-clause-goes
returns-in-Err-clause-goes g c =
    let x = course_of c.args.course.now in
    refused_goes g.H.Host.meaning c.args.event x _ (c.step.new.self ≡ c.args.course.now.world)
    (λ same. ap (λ w. record x { world = w.state }) same) c.in-Err.e c.in-Err.ensures.err c.refused.result c.refused.ensures.ok
