use Rattle.std.proofs.Common.{◌≡◌, ◌≤◌, ◌-◌, ◌*◌, map}
use Rattle.one_box.specs.Counting.{AtMost, part_of, turn_of}
use Rattle.one_box.specs.Running.{Going}
use Rattle.one_box.specs.Showing.{course_of, links_of, AllLostFit, GoesOn, place_of}
use Rattle.one_box.proofs.serving.take_turns.Given as goal

abbrev pub invariant-loop-taken : goal.invariant-loop-taken
invariant-loop-taken g l = record {
  going : Going (links_of g.L.Link) g.H.Host.meaning
      l.ops l.turns l.fn.now (g.C.Clock.values l.fn.clock) (course_of l.fn.course) l.fn.nodes.items l.taken l.now
      (g.C.Clock.values l.clock) (course_of l.course) l.nodes.items;
  goes : GoesOn g.H.Host.meaning (course_of l.fn.course) (course_of l.course);
  lost : AllLostFit (links_of g.L.Link)
      l.fn.nodes.items
      → AllLostFit (links_of g.L.Link) l.nodes.items;
  places : map (place_of (links_of g.L.Link))
      l.nodes.items
      ≡ map (place_of (links_of g.L.Link))
      l.fn.nodes.items;
  few : AtMost (l.taken * turn_of l.fn.nodes.items) l.fn.course.events.items l.course.events.items;
  parts : map part_of l.nodes.items ≡ map part_of l.fn.nodes.items;
  within : l.taken ≤ l.turns;
}

abbrev pub decreases-loop-taken : goal.decreases-loop-taken
decreases-loop-taken g l = l.turns - l.taken
