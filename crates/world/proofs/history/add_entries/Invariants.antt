use Rattle.std.proofs.Common.{◌≡◌, ◌++◌, List, take}
use Rattle.nop_types.specs.Histories.{history_of}
use Rattle.nop_types.specs.declared.request.Entry.{Entry}
use Rattle.world.specs.Ids.{table_after}
use Rattle.world.proofs.history.add_entries.Given as goal

-- the entries so far, after whatever log the table and the requests are of
abbrev pub invariant-loop-entry : goal.invariant-loop-entry
invariant-loop-entry l =
    (log : List Entry) → l.initial.table ≡ table_after log → l.initial.requests.items ≡ history_of log
    → (l.table ≡ table_after (log ++ take l.entry-index l.entries))
    × (l.requests.items ≡ history_of (log ++ take l.entry-index l.entries))
