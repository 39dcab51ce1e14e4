use Rattle.transcript_reader.specs.Claims.{lines_of}
use Rattle.judge.specs.Marks.{Marks}
use Rattle.judge.proofs.submitted.marks_of.Given as goal

abbrev pub invariant-loop-claim : goal.invariant-loop-claim
invariant-loop-claim l = Marks (lines_of l.claims) l.history l.claim-index l.marks.items
