use Rattle.std.proofs.Common.{◌≡◌, ◌++◌, length}
use Rattle.std.specs.Option.{option_copied}
use Rattle.line_fields.specs.Fields.{fields}
use Rattle.line_fields.specs.Split.{other_fields}
use Rattle.service_words.proofs.fields.fields_of.Given as goal

abbrev pub invariant-loop-field : goal.invariant-loop-field
invariant-loop-field l = l.words ++ other_fields (option_copied l.rest) ≡ fields l.line

abbrev pub decreases-loop-field : goal.decreases-loop-field
decreases-loop-field l = length (other_fields (option_copied l.rest))
