use Rattle.std.proofs.Common.{◌≡◌, ◌++◌, take}
use Rattle.std.specs.List.{flat_map}
use Rattle.service_tool.specs.Telling.{row_text}
use Rattle.service_tool.proofs.telling.put_rows.Given as goal

abbrev pub invariant-loop-row : goal.invariant-loop-row
invariant-loop-row l = l.to.items ≡ l.fn.to.items ++ flat_map row_text (take l.row-index l.rows)
