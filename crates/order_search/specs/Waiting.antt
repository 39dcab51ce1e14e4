-- The requests that are submitted and not placed.
use Rattle.std.specs.Prelude.{◌≡◌, ℕ, ◌<◌, List, Some, true, slice_get}
use Rattle.fronts.specs.Configurations.{AreLeft}
use Rattle.nop_types.specs.Lines.{Line, Submit}
use Rattle.nop_types.specs.Lists.{is_in}
use Rattle.nop_types.specs.declared.request.Request.{Request}

-- the places of those that the first k lines submit, each once
pub record AreWaiting (lines : List Line) (k : ℕ) (front : List Request) (places : List ℕ) : Type 0 where
  pub are_left : AreLeft lines k front places
  pub below : (n : ℕ) → is_in places n ≡ true → n < k
  pub submits : (n : ℕ) → is_in places n ≡ true → (r : Request) × (slice_get lines n ≡ Some (Submit r))
  pub apart : (a b n : ℕ) → slice_get places a ≡ Some n → slice_get places b ≡ Some n → a ≡ b
