-- The lines of a schedule, as far as they are decided.
use Rattle.std.specs.Prelude.{ℕ, List, map, Bool}
use Rattle.nop_types.specs.declared.limits.TheConstants.{MAX_LINES}
use Rattle.line_reader.specs.Cutting.{Cut}
use Rattle.line_reader.specs.Cutting as cutting

abbrev pub texts : List Cut → List (List ℕ)
texts cuts = map (λ (c : Cut). c.text) cuts

-- the lines of the bytes, where `before` lines were cut before; whether the input ends with these bytes
unfoldable pub lines_of : Bool → ℕ → List ℕ → List (List ℕ)
lines_of ended before bytes = texts (cutting.lines_of MAX_LINES ended before bytes)
