use Rattle.std.proofs.Common.{◌≡◌, ◌∙◌, subst, Some, arith, refl, List}
use Rattle.std.specs.Prelude.{slice_get}
use Rattle.udp_node.specs.declared.firing.Timer.{Timer}
use Rattle.one_box.specs.Showing.{course_of, links_of}
use Rattle.one_box.proofs.FiringLemmas.{none_fired, fired_at, all_fired_at}
use Rattle.one_box.proofs.LeadingLemmas.{goes_through}
use Rattle.one_box.proofs.firing.fire_due.Goals as goal

pub loop-i-init : goal.loop-i-init
loop-i-init g c =
    let v = links_of g.L.Link in
    record {
      fires = λ n shown. none_fired g.H.Host.meaning v
          c.args.ops.now c.args.now c.args.node.now.timers.items (course_of c.args.course.now) n c.args.node.now shown;
      goes = λ config led. led;
      lost = λ fits. fits;
      few = omega arith;
      within = omega arith;
      timers = refl;
      place = refl;
    }

pub loop-i-preserved : goal.loop-i-preserved
loop-i-preserved g c =
    let v = links_of g.L.Link in
    let all = c.args.node.now.timers.items in
    let i = c.loop-i.invariant in
    let there : slice_get all c.loop-i.i ≡ Some c.timer_at-timer.result =
    subst (λ (ts : List Timer). slice_get ts c.loop-i.i ≡ Some c.timer_at-timer.result) i.timers c.timer_at-timer.ensures in
    record {
      fires = λ n shown. fired_at g.H.Host.meaning v
          c.args.ops.now c.args.now all c.loop-i.i c.timer_at-timer.result (course_of c.args.course.now) (course_of c.loop-i.course)
          (course_of c.fire.new.course) n c.loop-i.node c.fire.new.node there (i.fires n shown) c.in_ok-fire.ensures.acts.does;
      goes = goes_through g.H.Host.meaning (course_of c.args.course.now) (course_of c.loop-i.course) (course_of c.fire.new.course) i.goes
          c.in_ok-fire.ensures.acts.goes;
      lost = λ fits. c.in_ok-fire.ensures.acts.lost (i.lost fits);
      few = omega (arith, i.few, c.fire.ensures.few);
      within = omega (arith, c.loop-i-test.true, c.len-i-end.ensures, c.args.node.now.timers.ok.0);
      timers = c.fire.ensures.timers ∙ i.timers;
      place = c.fire.ensures.place ∙ i.place;
    }

pub returns-clause-acts : goal.returns-clause-acts
returns-clause-acts g c =
    let v = links_of g.L.Link in
    record {
      does = λ n shown. all_fired_at g.H.Host.meaning v c.args.ops.now c.args.now c.args.node.now.timers.items c.loop-i.i
          (course_of c.args.course.now) (course_of c.loop-i.course) n c.loop-i.node (omega arith) shown.timers
          (c.loop-i.invariant.fires n shown);
      goes = c.loop-i.invariant.goes;
      lost = c.loop-i.invariant.lost;
    }

pub returns-clause-few : goal.returns-clause-few
returns-clause-few g c = omega (arith, c.loop-i.invariant.few, c.loop-i.invariant.within)

pub returns-clause-timers : goal.returns-clause-timers
returns-clause-timers g c = c.loop-i.invariant.timers

pub returns-clause-place : goal.returns-clause-place
returns-clause-place g c = c.loop-i.invariant.place
