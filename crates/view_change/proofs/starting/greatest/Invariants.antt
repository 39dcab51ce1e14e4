use Rattle.std.proofs.Common.{◌≡◌, drop, map}
use Rattle.nop_types.specs.PlainChanges.{plain}
use Rattle.log_merge.specs.Starting.{greatest}
use Rattle.nop_types.specs.Views.{greater}
use Rattle.view_change.proofs.starting.greatest.Given as goal

-- the greatest so far, against the rest
abbrev pub invariant-loop-change : goal.invariant-loop-change
invariant-loop-change l = greater l.best (greatest (map plain (drop l.change-index l.changes))) ≡ greatest (map plain l.changes)
