-- A text that grows by its parts.
use Rattle.std.specs.Prelude.{◌≡◌, ℕ, List, ◌++◌, codes, false, string_bytes}
use Rattle.picture.specs.declared.text.Text.{Text}

-- the part was appended, unless memory ran out, now or before
abbrev pub Grows : Text → Text → List ℕ → Type 0
Grows old new part = new.failed ≡ false → (old.failed ≡ false) × (string_bytes new.written ≡ string_bytes old.written ++ part)

-- a picture up to its end
pub record IsWhole (text : List ℕ) : Type 0 where
  pub parts : List ℕ
  pub is : text ≡ parts ++ codes "</svg>\n"
