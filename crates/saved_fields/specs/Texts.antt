-- Short texts: names, keys, any bytes of which there are few.
use Rattle.std.specs.Prelude.{ℕ, ◌≤◌, List, [], ◌∷◌, length, take, drop, Option, Some, None, nat_le, ◌&&◌, if◌then◌else◌}
use Rattle.saved_fields.specs.Fields.{Begins}

-- a text: its length in a byte, and its bytes
abbrev pub text_bytes : List ℕ → List ℕ
text_bytes text = length text ∷ text

-- a text of at most so many bytes, and what follows it
unfoldable pub text_at : ℕ → List ℕ → Option (List ℕ × List ℕ)
text_at most [] = None
text_at most (len ∷ rest) = if nat_le len most && nat_le len (length rest) then Some (take len rest, drop len rest) else None

abbrev pub TextFits : ℕ → List ℕ → Type 0
TextFits most text = length text ≤ most

-- the bytes begin with the text
abbrev pub BeginsText : ℕ → List ℕ → List ℕ × List ℕ → Type 0
BeginsText most = Begins (TextFits most) text_bytes
