use Rattle.std.proofs.Common.{◌≡◌, drop, filter}
use Rattle.std.specs.Option.{option_copied}
use Rattle.nop_types.specs.Views.{is_view}
use Rattle.log_merge.specs.Merging.{best}
use Rattle.log_merge.proofs.Best.{with_best}
use Rattle.log_merge.proofs.choosing.best.Given as goal

-- the best so far, or the best of the rest
abbrev pub invariant-loop-change : goal.invariant-loop-change
invariant-loop-change l =
    with_best (option_copied l.best) (best (filter (λ c. is_view c.last_normal l.view) (drop l.change-index l.changes)))
    ≡ best (filter (λ c. is_view c.last_normal l.view) l.changes)
