use Rattle.std.proofs.Common.{◌≡◌, suc, drop, option_map}
use Rattle.log_merge.specs.Merge.{of_two, chosen}
use Rattle.log_merge.specs.Given.{given, rests}
use Rattle.log_merge.proofs.merging.chosen.Given as goal

-- what won so far, against the rest
abbrev pub invariant-loop-change : goal.invariant-loop-change
invariant-loop-change l =
    of_two (option_map given l.won) (chosen (rests l.view l.slot (drop l.change-index l.changes)) (suc l.place))
    ≡ chosen (rests l.view l.slot l.changes) (suc l.place)
