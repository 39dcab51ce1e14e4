-- What the words behind a command ask for.
use Rattle.std.specs.Prelude.{ℕ, List, [], ◌∷◌, Option, Some, None, codes, if◌then◌else◌}
use Rattle.line_fields.specs.Fields.{is_text}
use Rattle.service_words.specs.declared.direction.Direction.{Direction}
use Rattle.service_words.specs.declared.direction.Direction.TheVariants.{ToWords, ToHex}

abbrev pub direction_of : List (List ℕ) → Option Direction
direction_of [] = Some ToWords
direction_of (word ∷ []) = if is_text (codes "--back") word then Some ToHex else None
direction_of (word ∷ more ∷ rest) = None
