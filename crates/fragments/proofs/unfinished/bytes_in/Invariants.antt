use Rattle.std.proofs.Common.{◌≡◌, length, take}
use Rattle.std.specs.Prelude.{sum_by}
use Rattle.fragments.specs.Parts.{bytes_of}
use Rattle.fragments.proofs.unfinished.bytes_in.Given as goal

abbrev pub invariant-loop-part : goal.invariant-loop-part
invariant-loop-part l = l.bytes ≡ sum_by (λ part. length (bytes_of part)) (take l.part-index l.parts)
