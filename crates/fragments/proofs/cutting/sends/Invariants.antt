use Rattle.std.proofs.Common.{◌≡◌}
use Rattle.fragments.specs.Cutting.{first_fragments, sends_of}
use Rattle.fragments.proofs.cutting.sends.Given as goal

abbrev pub invariant-loop-index : goal.invariant-loop-index
invariant-loop-index l = l.made ≡ sends_of l.dest (first_fragments l.sender l.number l.bytes l.index)
