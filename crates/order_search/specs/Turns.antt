-- What stands at a line of a search, and what a search answers.
use Rattle.std.specs.Prelude.{◌≡◌, ℕ, List, [], ◌∷◌, ◌++◌, Some, slice_get}
use Rattle.execution_laws.specs.Legality.{IsNoMember}
use Rattle.fronts.specs.Fronts.{IsMember}
use Rattle.nop_types.specs.Lines.{Line, Submit, Accept}
use Rattle.nop_types.specs.declared.request.Request.{Request}
use Rattle.order_search.specs.Searching.{requests_at}

-- what the line accepts, if anything, is in the front
abbrev pub IsPassed : List Line → ℕ → List Request → Type 0
IsPassed lines k front = (client id : ℕ) (result : List ℕ) → slice_get lines k ≡ Some (Accept client id result) → IsMember front client id

-- the line accepts what is not in the front
pub record IsStuck (lines : List Line) (k : ℕ) (front : List Request) : Type 0 where
  pub client : ℕ
  pub id : ℕ
  pub result : List ℕ
  pub accepts : slice_get lines k ≡ Some (Accept client id result)
  pub new : IsNoMember front client id

-- the requests that are submitted at these places
abbrev pub history_at : List Line → List ℕ → List Request
history_at lines [] = []
history_at lines (i ∷ places) = requests_at lines i ++ history_at lines places

-- the lines at these places submit
abbrev pub AllSubmit : List Line → List ℕ → Type 0
AllSubmit lines places = (a i : ℕ) → slice_get places a ≡ Some i → (r : Request) × (slice_get lines i ≡ Some (Submit r))
