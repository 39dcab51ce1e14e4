-- Parts of which the first stand in one piece.
use Rattle.std.specs.Prelude.{◌≡◌, ℕ, zero, suc, ◌*◌, ◌≤◌, List, [], ◌∷◌, ◌++◌, length, drop, Option, Some}
use Rattle.nop_types.specs.declared.limits.TheConstants.{FRAGMENT_BYTES}
use Rattle.fragments.specs.Parts.{missing}
use Rattle.fragments.specs.Cutting.{piece}

-- a number of full parts, one behind the other
abbrev pub prefix_parts : List ℕ → ℕ → List (Option (List ℕ))
prefix_parts prefix zero = []
prefix_parts prefix (suc k) = prefix_parts prefix k ++ Some (piece prefix k) ∷ []

-- the parts of a front, and the places behind them
abbrev pub parts_of : List ℕ → ℕ → List (Option (List ℕ)) → List (Option (List ℕ))
parts_of prefix filled later = prefix_parts prefix filled ++ drop filled later

pub record IsSplit (prefix : List ℕ) (filled : ℕ) (later : List (Option (List ℕ))) (gone : ℕ) : Type 0 where
  pub size : length prefix ≡ FRAGMENT_BYTES * filled
  pub within : filled ≤ length later
  pub counted : gone ≡ missing (parts_of prefix filled later)
