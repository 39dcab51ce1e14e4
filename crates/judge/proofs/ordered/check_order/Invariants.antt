use Rattle.std.proofs.Common.{ℕ, ◌<◌}
use Rattle.judge.specs.Breaks.{IsInOrder}
use Rattle.transcript_reader.specs.Claims.{lines_of}
use Rattle.judge.specs.Reached.{Reaches}
use Rattle.judge.proofs.ordered.check_order.Given as goal

abbrev pub invariant-loop-k : goal.invariant-loop-k
invariant-loop-k l =
    record {
      reaches : Reaches (lines_of l.claims) l.history l.k l.last;
      ordered : (j : ℕ) → j < l.k → IsInOrder (lines_of l.claims) l.history j;
    }
