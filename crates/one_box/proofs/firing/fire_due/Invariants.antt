use Rattle.std.proofs.Common.{◌≡◌, ◌≤◌, drop, length}
use Rattle.one_box.specs.ClusterRun.{BoxActor}
use Rattle.one_box.specs.Counting.{AtMost}
use Rattle.one_box.specs.Progress.{FiringOn}
use Rattle.one_box.specs.Showing.{course_of, links_of, GoesOn, LostFits, Shows, place_of}
use Rattle.one_box.proofs.firing.fire_due.Given as goal

abbrev pub invariant-loop-i : goal.invariant-loop-i
invariant-loop-i g l = record {
  fires : (n : BoxActor) → Shows (links_of g.L.Link) n
      l.fn.node → FiringOn g.H.Host.meaning
      (links_of g.L.Link) l.ops l.now
      l.fn.node.timers.items (drop l.i l.fn.node.timers.items) (course_of l.fn.course) n (course_of l.course) l.node;
  goes : GoesOn g.H.Host.meaning (course_of l.fn.course) (course_of l.course);
  lost : LostFits (links_of g.L.Link) l.fn.node
      → LostFits (links_of g.L.Link) l.node;
  few : AtMost l.i l.fn.course.events.items l.course.events.items;
  within : l.i ≤ length l.fn.node.timers.items;
  timers : l.node.timers.items ≡ l.fn.node.timers.items;
  place : place_of (links_of g.L.Link) l.node
      ≡ place_of (links_of g.L.Link) l.fn.node;
}
