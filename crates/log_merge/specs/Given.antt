-- What the code holds, as plain data.
use Rattle.std.specs.Prelude.{ℕ, List, map, filter, Option, Some, None}
use Rattle.nop_types.specs.declared.peer.Change.{Change}
use Rattle.nop_types.specs.declared.view.View.{View}
use Rattle.nop_types.specs.Logs.{Trimmed}
use Rattle.nop_types.specs.PlainChanges as plains
use Rattle.nop_types.specs.PlainChanges.{plain_above}
use Rattle.nop_types.specs.Views.{is_view}
use Rattle.log_merge.specs.declared.merging.Choice as code
use Rattle.log_merge.specs.Merge.{Choice}
use Rattle.log_merge.specs.Merging.{better}

-- what a log says of a slot, without where it lies in memory
abbrev pub given : code.Choice → Choice
given t = record { sender = t.sender; entry = t.entry.now }

-- what the trimmed logs of the changes with a last normal view have above a slot
abbrev pub rests : View → ℕ → List Change → List plains.Change
rests view slot cs = map (plain_above Trimmed slot) (filter (λ c. is_view c.last_normal view) cs)

-- the best of the changes so far, or one more
abbrev pub better_of : Option Change → Change → Change
better_of None c = c
better_of (Some b) c = better b (Some c)
