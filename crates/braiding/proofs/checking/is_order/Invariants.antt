use Rattle.std.proofs.Common.{◌≡◌, ℕ, ◌<◌, length, take, get_or, vec_len}
use Rattle.braiding.specs.Checks.{AreMarked}
use Rattle.braiding.specs.Orders.{Fits, texts_of}
use Rattle.braiding.proofs.checking.is_order.Given as goal

abbrev pub invariant-loop-place : goal.invariant-loop-place
invariant-loop-place l = record {
  seen : vec_len l.marks.seen ≡ length l.lines;
  marked : AreMarked (texts_of l.lines) l.marks (take l.place-index l.order);
  fits : (k : ℕ) → k < l.place-index → Fits (texts_of l.lines) (take k l.order) (get_or l.order k 0);
}
