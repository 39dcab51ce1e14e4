use Rattle.std.proofs.Common.{◌≡◌, ◌+◌, ◌++◌, drop}
use Rattle.world.specs.StateLines.{entries_text}
use Rattle.world.proofs.state_lines.put_entries.Given as goal

-- what was put and what is left are all
abbrev pub invariant-loop-i : goal.invariant-loop-i
invariant-loop-i l = l.to.items ++ entries_text l.replica (l.i + 1) (drop l.i l.entries) ≡ l.initial.to.items
    ++ entries_text l.replica 1 l.entries
