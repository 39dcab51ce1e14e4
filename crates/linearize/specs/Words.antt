-- What the arguments ask for.
use Rattle.std.specs.Prelude.{ℕ, List, [], ◌∷◌, Option, Some, None, codes, if◌then◌else◌}
use Rattle.line_fields.specs.Fields.{is_text, number_of}
use Rattle.linearize.specs.declared.words.TheConstants.{DEFAULT_STEPS}

abbrev pub steps_of : List (List ℕ) → Option ℕ
steps_of [] = Some DEFAULT_STEPS
steps_of (option ∷ steps ∷ []) = if is_text (codes "--most") option then number_of steps else None
steps_of _ = None

-- the most steps, by the arguments behind the program's name; none where they are not taken
abbrev pub asked : List (List ℕ) → Option ℕ
asked [] = None
asked (program ∷ words) = steps_of words
