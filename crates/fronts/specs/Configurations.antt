-- What a search keeps of a front from which no history is legal: at which line, what is open there, and the host's state as bytes.
use Rattle.std.specs.Prelude.{◌≡◌, ℕ, ◌<◌, List, Some, true, false, slice_get}
use Rattle.fronts.specs.Fronts.{after_all, GoesOn, IsMember, IsFront}
use Rattle.execution_laws.specs.Legality.{IsNoMember}
use Rattle.nop_types.specs.Lines.{Line, Submit, Accept}
use Rattle.nop_types.specs.Lists.{Has, is_in}
use Rattle.nop_types.specs.Meaning.{Meaning}
use Rattle.nop_types.specs.declared.request.Request.{Request}

-- these are the places of the requests that are submitted before the line k and are not in the front
pub record AreLeft (lines : List Line) (k : ℕ) (front : List Request) (places : List ℕ) : Type 0 where
  pub left : (i : ℕ) (r : Request) → i < k → slice_get lines i ≡ Some (Submit r) → is_in places i ≡ true → IsNoMember front r.client r.id
  pub placed : (i : ℕ) (r : Request) → i < k → slice_get lines i ≡ Some (Submit r) → is_in places i ≡ false
      → IsMember front r.client r.id

-- the line at this place submits nothing that a line accepts
abbrev pub IsNeverAccepted : List Line → ℕ → Type 0
IsNeverAccepted lines i =
    (r : Request) (result : List ℕ) → slice_get lines i ≡ Some (Submit r) → Has lines (Accept r.client r.id result) → ⊥

-- all of the one are places of the other, which besides has only places of what is never accepted
pub record HasUnaccepted (lines : List Line) (fewer places : List ℕ) : Type 0 where
  pub within : (i : ℕ) → is_in fewer i ≡ true → is_in places i ≡ true
  pub besides : (i : ℕ) → is_in places i ≡ true → is_in fewer i ≡ false → IsNeverAccepted lines i

-- a front with this configuration goes nowhere
pub record IsFailed {S : Type 0} (m : Meaning S) (lines : List Line) (k : ℕ) (places saved : List ℕ) : Type 0 where
  pub front : List Request
  pub is_front : IsFront m lines k front
  pub are_left : AreLeft lines k front places
  pub saved_is : m.saved (after_all m m.opening front) ≡ saved
  pub fails : GoesOn m lines front → ⊥
