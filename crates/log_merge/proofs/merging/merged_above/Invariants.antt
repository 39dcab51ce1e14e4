use Rattle.std.proofs.Common.{◌≡◌, map}
use Rattle.std.specs.List.{range_with_len}
use Rattle.log_merge.specs.Merge.{chosen, entry_of}
use Rattle.log_merge.specs.Given.{rests}
use Rattle.log_merge.proofs.merging.merged_above.Given as goal

abbrev pub invariant-loop-place : goal.invariant-loop-place
invariant-loop-place l = l.entries.items
    ≡ map (λ k. entry_of (chosen (rests l.view l.slot l.changes) k)) (range_with_len 1 l.place)
