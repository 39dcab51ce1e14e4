use Rattle.std.proofs.Common.{◌≡◌, map, take}
use Rattle.filled_orders.proofs.asking.asked_claims.Given as goal
use Rattle.transcript_reader.specs.Claims.{lines_of}
use Rattle.unknown_results.specs.Asking.{asked_line, unknown_in}

abbrev pub invariant-loop-place : goal.invariant-loop-place
invariant-loop-place l =
    lines_of l.asked.items ≡ map (asked_line (unknown_in l.marks (lines_of l.claims))) (take l.place (lines_of l.claims))
