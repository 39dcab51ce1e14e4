-- The fields of a line, the first one and the others.
use Rattle.std.specs.Prelude.{ℕ, List, [], Option, Some, None}
use Rattle.line_fields.specs.Fields.{fields}

-- the fields of what follows a space, where there is a space
abbrev pub other_fields : Option (List ℕ) → List (List ℕ)
other_fields None = []
other_fields (Some rest) = fields rest
