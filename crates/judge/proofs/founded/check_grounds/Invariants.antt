use Rattle.std.proofs.Common.{ℕ, ◌<◌}
use Rattle.judge.specs.Breaks.{AreFounded}
use Rattle.transcript_reader.specs.Claims.{lines_of}
use Rattle.judge.specs.Grounds.{Sees}
use Rattle.judge.specs.Places.{place_in}
use Rattle.judge.proofs.founded.check_grounds.Given as goal

abbrev pub invariant-loop-k : goal.invariant-loop-k
invariant-loop-k g l =
    record {
      sees : Sees (lines_of l.claims) l.k (place_in l.submitted) (place_in l.accepted);
      founded : (j : ℕ) → j < l.k → AreFounded g.H.Host.meaning (lines_of l.claims) l.history j;
    }
