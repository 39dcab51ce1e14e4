use Rattle.std.proofs.Common.{◌≡◌, max, drop, map, filter}
use Rattle.nop_types.specs.Views.{is_view}
use Rattle.nop_types.specs.PlainChanges.{plain}
use Rattle.log_merge.specs.Starting.{greatest_next}
use Rattle.view_change.proofs.starting.greatest_next.Given as goal

abbrev pub invariant-loop-change : goal.invariant-loop-change
invariant-loop-change l =
    max l.most (greatest_next (filter (λ c. is_view c.last_normal l.view) (map plain (drop l.change-index l.changes))))
    ≡ greatest_next (filter (λ c. is_view c.last_normal l.view) (map plain l.changes))
