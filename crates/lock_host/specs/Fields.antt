-- The fields of ops and of saved states: names, which are texts of 1 to 64 bytes, and numbers (`saved_fields`).
use Rattle.std.specs.Prelude.{ℕ, ◌≤◌, List, [], ◌∷◌, length, take, drop, Option, Some, None, nat_le, ◌&&◌}
use Rattle.std.specs.Prelude.{if◌then◌else◌}
use Rattle.saved_fields.specs.Texts.{text_bytes}
use Rattle.lock_host.specs.declared.name.TheConstants.{MAX_NAME_BYTES}

-- a name has 1 to 64 bytes
pub record NameFits (name : List ℕ) : Type 0 where
  pub least : 1 ≤ length name
  pub most : length name ≤ MAX_NAME_BYTES

abbrev pub name_bytes : List ℕ → List ℕ
name_bytes name = text_bytes name

-- a name, and what follows it
unfoldable pub name_at : List ℕ → Option (List ℕ × List ℕ)
name_at (len ∷ rest) =
    if nat_le 1 len && (nat_le len MAX_NAME_BYTES && nat_le len (length rest)) then Some (take len rest, drop len rest) else None
name_at [] = None
