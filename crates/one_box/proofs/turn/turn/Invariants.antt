use Rattle.std.proofs.Common.{◌≡◌, length, map, take, List}
use Rattle.std.specs.Prelude.{sum}
use Rattle.one_box.specs.ClusterRun.{BoxActor}
use Rattle.one_box.specs.Counting.{AtMost, part_of}
use Rattle.one_box.specs.Progress.{TurningOn}
use Rattle.one_box.specs.Showing.{course_of, links_of, AllLostFit, AllShow, GoesOn, place_of}
use Rattle.one_box.proofs.turn.turn.Given as goal

abbrev pub invariant-loop-i : goal.invariant-loop-i
invariant-loop-i g l = record {
  turns : (ns : List BoxActor) → AllShow (links_of g.L.Link)
      ns l.fn.nodes.items
      → TurningOn g.H.Host.meaning (links_of g.L.Link)
      l.ops l.now (course_of l.fn.course) ns l.i (course_of l.course) l.nodes.items;
  goes : GoesOn g.H.Host.meaning (course_of l.fn.course) (course_of l.course);
  lost : AllLostFit (links_of g.L.Link)
      l.fn.nodes.items
      → AllLostFit (links_of g.L.Link) l.nodes.items;
  places : map (place_of (links_of g.L.Link))
      l.nodes.items
      ≡ map (place_of (links_of g.L.Link))
      l.fn.nodes.items;
  few : AtMost (sum (take l.i (map part_of l.fn.nodes.items))) l.fn.course.events.items l.course.events.items;
  parts : map part_of l.nodes.items ≡ map part_of l.fn.nodes.items;
  len : length l.nodes.items ≡ length l.fn.nodes.items;
}
