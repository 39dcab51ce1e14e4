use Rattle.std.proofs.Common.{◌≡◌, ◌<◌, ℕ, Some}
use Rattle.std.specs.Prelude.{slice_get}
use Rattle.linearize.proofs.answering.all_have_bytes.Given as goal
use Rattle.linearize.specs.Answering.{HasBytes}
use Rattle.nop_types.specs.Lines.{Line}
use Rattle.transcript_reader.specs.Claims.{lines_of}

abbrev pub invariant-loop-claim : goal.invariant-loop-claim
invariant-loop-claim l =
    (k : ℕ) → k < l.claim-index → (line : Line) → slice_get (lines_of l.claims) k ≡ Some line → HasBytes line
