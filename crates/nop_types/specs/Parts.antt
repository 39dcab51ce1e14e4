-- Which datagrams are parts of a message of several fragments, by their bytes alone.
use Rattle.std.specs.Prelude.{◌≡◌, ◌≢◌, ◌<◌, ℕ, List, [], ◌∷◌, length, slice_get, take, drop, Some}
use Rattle.nop_types.specs.declared.kinds.TheConstants.{COUNT_PLACE, FRAGMENT, FRAGMENT_HEADER_BYTES, KIND_PLACE}

-- a fragment with a payload, whose count is not 1
pub record IsPart (bytes : List ℕ) : Type 0 where
  pub kind : slice_get bytes KIND_PLACE ≡ Some FRAGMENT
  pub payload : FRAGMENT_HEADER_BYTES < length bytes
  pub count : take 2 (drop COUNT_PLACE bytes) ≢ 0 ∷ 1 ∷ []
