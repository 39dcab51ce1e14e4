use Rattle.std.proofs.Common.{◌≡◌, ◌∙◌, ◌+◌, sym, arith, rules, max}
use Rattle.one_box.specs.Counting.{turn_of}
use Rattle.one_box.specs.Showing.{course_of, links_of}
use Rattle.one_box.proofs.Counting.{a_turn_more, turns_within}
use Rattle.one_box.proofs.LeadingLemmas.{goes_through}
use Rattle.one_box.proofs.RunningLemmas.{run_stops, turn_done, going_on, turns_over, runs_fail}
use Rattle.one_box.proofs.serving.take_turns.Goals as goal

pub returns-in-Err-clause-observed : goal.returns-in-Err-clause-observed
returns-in-Err-clause-observed g c =
    let v = links_of g.L.Link in
    run_stops g.H.Host.meaning v
    c.args.ops.now c.args.turns c.args.now c.loop-taken.taken c.loop-taken.now (g.C.Clock.values c.loop-taken.clock)
    (g.C.Clock.values c.args.clock.now) (course_of c.args.course.now) (course_of c.loop-taken.course) (course_of c.turn.new.course)
    c.args.nodes.now.items c.loop-taken.nodes.items c.turn.new.nodes.items c.loop-taken-test.true c.in-Err.e
    c.loop-taken.invariant.going c.in-Err.ensures.turns

pub returns-then-all_accepted-clause-observed : goal.returns-then-all_accepted-clause-observed
returns-then-all_accepted-clause-observed g c =
    let v = links_of g.L.Link in
    turn_done g.H.Host.meaning v
    c.args.ops.now c.args.turns c.args.now c.loop-taken.taken c.loop-taken.now (g.C.Clock.values c.loop-taken.clock)
    (g.C.Clock.values c.args.clock.now) (course_of c.args.course.now) (course_of c.loop-taken.course) (course_of c.turn.new.course)
    c.args.nodes.now.items c.loop-taken.nodes.items c.turn.new.nodes.items c.loop-taken-test.true
    c.loop-taken.invariant.going c.in_default.ensures.turns.does (sym c.all_accepted.ensures ∙ c.if-all_accepted.true)

pub loop-taken-preserved : goal.loop-taken-preserved
loop-taken-preserved g c =
    let v = links_of g.L.Link in
    let later : c.max-now.result ≡ max c.loop-taken.now c.now.result = search rules in
    let goes_on = going_on g.H.Host.meaning v
    c.args.ops.now c.args.turns c.args.now c.loop-taken.taken c.loop-taken.now (g.C.Clock.values c.loop-taken.clock)
    (g.C.Clock.values c.args.clock.now) (course_of c.args.course.now) (course_of c.loop-taken.course) (course_of c.turn.new.course)
    c.args.nodes.now.items c.loop-taken.nodes.items c.turn.new.nodes.items c.loop-taken-test.true c.now.result
    (g.C.Clock.values c.now.new.self) c.loop-taken.invariant.going c.in_default.ensures.turns.does
    (sym c.all_accepted.ensures ∙ c.if-all_accepted.false) c.now.ensures in
    record {
      going = rw later goes_on;
      goes = goes_through g.H.Host.meaning (course_of c.args.course.now) (course_of c.loop-taken.course) (course_of c.turn.new.course)
          c.loop-taken.invariant.goes c.in_default.ensures.turns.goes;
      lost = λ fits. c.in_default.ensures.turns.lost (c.loop-taken.invariant.lost fits);
      places = c.turn.ensures.places ∙ c.loop-taken.invariant.places;
      few = a_turn_more c.args.nodes.now.items c.loop-taken.nodes.items c.loop-taken.invariant.parts c.loop-taken.taken
          c.args.course.now.events.items c.loop-taken.course.events.items c.turn.new.course.events.items c.loop-taken.invariant.few
          c.in_default.ensures.few;
      parts = c.turn.ensures.parts ∙ c.loop-taken.invariant.parts;
      within = omega (arith, c.loop-taken-test.true);
    }

pub returns-clause-observed : goal.returns-clause-observed
returns-clause-observed g c =
    let v = links_of g.L.Link in
    turns_over g.H.Host.meaning v
    c.args.ops.now c.args.turns c.args.now c.loop-taken.taken c.loop-taken.now (g.C.Clock.values c.loop-taken.clock)
    (g.C.Clock.values c.args.clock.now) (course_of c.args.course.now) (course_of c.loop-taken.course)
    c.args.nodes.now.items c.loop-taken.nodes.items c.all_accepted-done.result c.loop-taken-test.false c.all_accepted-done.ensures
    c.loop-taken.invariant.going

pub returns-in-Err-clause-runs : goal.returns-in-Err-clause-runs
returns-in-Err-clause-runs g c =
    let v = links_of g.L.Link in
    runs_fail g.H.Host.meaning v _ c.args.ops.now c.args.turns (course_of c.args.course.now) (course_of c.loop-taken.course)
    (course_of c.turn.new.course) c.args.nodes.now.items c.loop-taken.nodes.items c.turn.new.nodes.items c.in-Err.e c.in-Err.ensures.turns

pub returns-in-Err-clause-places : goal.returns-in-Err-clause-places
returns-in-Err-clause-places g c = c.turn.ensures.places ∙ c.loop-taken.invariant.places

pub returns-then-all_accepted-clause-runs : goal.returns-then-all_accepted-clause-runs
returns-then-all_accepted-clause-runs g c = record {
  done = sym c.if-all_accepted.true ∙ c.all_accepted.ensures;
  spent = λ is. absurd cc;
  goes = goes_through g.H.Host.meaning (course_of c.args.course.now) (course_of c.loop-taken.course) (course_of c.turn.new.course)
      c.loop-taken.invariant.goes c.in_default.ensures.turns.goes;
  lost = λ fits. c.in_default.ensures.turns.lost (c.loop-taken.invariant.lost fits);
}

pub returns-then-all_accepted-clause-places : goal.returns-then-all_accepted-clause-places
returns-then-all_accepted-clause-places g c = c.turn.ensures.places ∙ c.loop-taken.invariant.places

pub returns-clause-runs : goal.returns-clause-runs
returns-clause-runs g c = record {
  done = c.all_accepted-done.ensures;
  spent = λ is. omega (arith, c.loop-taken-test.false, c.loop-taken.invariant.within);
  goes = c.loop-taken.invariant.goes;
  lost = c.loop-taken.invariant.lost;
}

pub returns-then-all_accepted-clause-few : goal.returns-then-all_accepted-clause-few
returns-then-all_accepted-clause-few g c =
    let n = turn_of c.args.nodes.now.items in
    turns_within n (c.loop-taken.taken + 1) c.args.turns c.args.course.now.events.items c.turn.new.course.events.items
    (omega (arith, c.loop-taken-test.true))
    (a_turn_more c.args.nodes.now.items c.loop-taken.nodes.items c.loop-taken.invariant.parts c.loop-taken.taken
    c.args.course.now.events.items c.loop-taken.course.events.items c.turn.new.course.events.items c.loop-taken.invariant.few
    c.in_default.ensures.few)

pub returns-clause-few : goal.returns-clause-few
returns-clause-few g c =
    turns_within (turn_of c.args.nodes.now.items) c.loop-taken.taken c.args.turns c.args.course.now.events.items
    c.loop-taken.course.events.items c.loop-taken.invariant.within c.loop-taken.invariant.few

pub returns-clause-places : goal.returns-clause-places
returns-clause-places g c = c.loop-taken.invariant.places
