use Rattle.std.proofs.Common.{◌≡◌, ◌+◌, ◌++◌, drop}
use Rattle.nop_types.specs.Lists.{IsPrefixOf}
use Rattle.world.specs.Ending.{history_text}
use Rattle.world.proofs.ending.history_lines.Given as goal

-- what was put and what is left are all
abbrev pub invariant-loop-i : goal.invariant-loop-i
invariant-loop-i l = record {
  text : l.to.items ++ history_text (l.i + 1) (drop l.i l.requests) ≡ l.initial.to.items ++ history_text 1 l.requests;
  begins : IsPrefixOf l.initial.to.items l.to.items;
}
