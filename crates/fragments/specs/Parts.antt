-- The parts of a message, of which some may be missing.
use Rattle.std.specs.Prelude.{ℕ, Bool, List, [], ◌∷◌, Option, Some, None, suc, is_none, get_or, set}
use Rattle.std.specs.List.{flat_map}

-- an unfinished message: its number, and a place for each index of its count
pub record Partial : Type 0 where
  pub number : ℕ
  pub parts : List (Option (List ℕ))

-- how many parts have not come
abbrev pub missing : List (Option (List ℕ)) → ℕ
missing [] = 0
missing (None ∷ parts) = suc (missing parts)
missing (Some bytes ∷ parts) = missing parts

-- whether there is such an index and its part has not come
abbrev pub is_open : List (Option (List ℕ)) → ℕ → Bool
is_open parts index = is_none (get_or parts index (Some []))

abbrev pub bytes_of : Option (List ℕ) → List ℕ
bytes_of None = []
bytes_of (Some bytes) = bytes

-- the parts that came, in the order of their indexes
abbrev pub whole : List (Option (List ℕ)) → List ℕ
whole parts = flat_map bytes_of parts

-- the same message with a part at an index
abbrev pub with_part : Partial → ℕ → List ℕ → Partial
with_part m index payload = record { number = m.number; parts = set m.parts index (Some payload) }
