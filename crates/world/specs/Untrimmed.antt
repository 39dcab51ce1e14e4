-- Outputs without entries that moved out of a log, which have no line.
use Rattle.std.specs.Prelude.{List, Bool, true, false}
use Rattle.std.specs.List.{filter}
use Rattle.nop_types.specs.declared.output.Out.{Out}
use Rattle.nop_types.specs.declared.output.Out.TheVariants as outs

abbrev pub has_line : Out → Bool
has_line (outs.Trimmed first entries) = false
has_line _ = true

-- those that have a line, in order
abbrev pub untrimmed : List Out → List Out
untrimmed os = filter has_line os
