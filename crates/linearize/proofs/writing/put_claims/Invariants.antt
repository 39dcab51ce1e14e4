use Rattle.std.proofs.Common.{◌≡◌, ◌++◌, take}
use Rattle.linearize.proofs.writing.put_claims.Given as goal
use Rattle.transcript_reader.specs.Claims.{lines_of}
use Rattle.transcript_text.specs.Transcript.{lines_text}

abbrev pub invariant-loop-claim : goal.invariant-loop-claim
invariant-loop-claim l = l.to.items ≡ l.fn.to.items ++ lines_text (lines_of (take l.claim-index l.claims))
