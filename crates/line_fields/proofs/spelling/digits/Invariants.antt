use Rattle.std.proofs.Common.{◌≡◌, drop, Some}
use Rattle.line_fields.specs.Fields.{number_on}
use Rattle.line_fields.proofs.spelling.digits.Given as goal

abbrev pub invariant-loop-d : goal.invariant-loop-d
invariant-loop-d l = number_on (Some l.n) (drop l.d-index l.text) ≡ number_on (Some 0) l.text
