-- What a view is started with.
use Rattle.std.specs.Prelude.{◌==◌, ℕ, max, cond, filter, List, [], ◌∷◌}
use Rattle.nop_types.specs.declared.request.Entry.{Entry}
use Rattle.nop_types.specs.PlainChanges.{Change}
use Rattle.nop_types.specs.declared.view.View.{View}
use Rattle.nop_types.specs.Views.{outranks, is_view}
use Rattle.log_merge.specs.Merge.{merge}

-- the number of the next request, and the log
pub record Start : Type 0 where
  pub next : ℕ
  pub log : List Entry

-- the last normal view of greatest rank
abbrev pub greatest : List Change → View
greatest [] = record { leader = 0; session = 0 }
greatest (c ∷ cs) = cond (outranks (greatest cs) c.last_normal) (greatest cs) c.last_normal

-- those that come from that view
abbrev pub kept : List Change → List Change
kept cs = filter (λ c. is_view c.last_normal (greatest cs)) cs

abbrev pub greatest_next : List Change → ℕ
greatest_next [] = 0
greatest_next (c ∷ cs) = max c.next (greatest_next cs)

abbrev pub greatest_point : List Change → ℕ
greatest_point [] = 0
greatest_point (c ∷ cs) = max c.sync_point (greatest_point cs)

-- the sync point of the log that a view is started with: the greatest one of the kept logs
abbrev pub start_point : List Change → ℕ
start_point cs = greatest_point (kept cs)

-- what the view w is started with: the merge of the kept logs, and their greatest next number where they come from its session
abbrev pub start_of : View → List Change → Start
start_of w cs = record { next = cond ((greatest cs).session == w.session) (greatest_next (kept cs)) 1; log = merge (kept cs) }
