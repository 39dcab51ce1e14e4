-- The merge of logs that are kept whole or trimmed.
use Rattle.std.specs.Prelude.{◌≤◌, ◌≡◌, ℕ, List, [], ◌∷◌, map, filter, Bool, cond, Option, Some, None, nat_le, nat_lt, ◌==◌, ◌&&◌, ◌||◌}
use Rattle.nop_types.specs.declared.request.Entry.{Entry}
use Rattle.nop_types.specs.declared.peer.Change.{Change}
use Rattle.nop_types.specs.Lists.{Has}
use Rattle.nop_types.specs.Logs.{Log, Keeping, before, empty}
use Rattle.nop_types.specs.PlainChanges.{plain, plain_above}
use Rattle.nop_types.specs.Views.{is_view}
use Rattle.log_merge.specs.Merge.{merge}
use Rattle.log_merge.specs.Starting.{greatest}

-- of the changes, those that come from the last normal view of greatest rank
abbrev pub kept_changes : List Change → List Change
kept_changes cs = filter (λ c. is_view c.last_normal (greatest (map plain cs))) cs

-- the merge of what stands above a slot
abbrev pub merge_above : Keeping → ℕ → List Change → List Entry
merge_above k n cs = merge (map (plain_above k n) cs)

-- ---- whose sync point and checkpoint are taken

-- the greater sync point comes first, and of equal ones the lower sender
abbrev pub precedes : Change → Change → Bool
precedes c d = nat_lt d.log.sync_point c.log.sync_point || ((c.log.sync_point == d.log.sync_point) && nat_le c.sender d.sender)

abbrev pub better : Change → Option Change → Change
better c None = c
better c (Some d) = cond (precedes c d) c d

abbrev pub best : List Change → Option Change
best [] = None
best (c ∷ cs) = Some (better c (best cs))

-- no sync point is greater, and no sender with the same one lower
pub record IsBest (cs : List Change) (c : Change) : Type 0 where
  pub member : Has cs c
  pub greatest : (d : Change) → Has cs d → d.log.sync_point ≤ c.log.sync_point
  pub lowest : (d : Change) → Has cs d → d.log.sync_point ≡ c.log.sync_point → c.sender ≤ d.sender

-- ---- the merge

abbrev pub merged_from : Keeping → List Change → Option Change → Log
merged_from k cs None = empty
merged_from k cs (Some g) = record g.log { entries = merge_above k (before k g.log) cs }

-- the sync point and the checkpoint of the best, and the merge of what all logs have from its first entry on
abbrev pub merged : Keeping → List Change → Log
merged k cs = merged_from k cs (best cs)
