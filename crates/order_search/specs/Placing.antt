-- Which requests are placed.
use Rattle.std.specs.Prelude.{◌≡◌, ℕ, Bool, true, false, List, Some, length, slice_get}
use Rattle.execution_laws.specs.Legality.{IsNoMember}
use Rattle.fronts.specs.Fronts.{IsMember}
use Rattle.nop_types.specs.Lines.{Line, Submit}
use Rattle.nop_types.specs.declared.request.Request.{Request}

-- a mark for each line: where it submits a request, whether this is in the front
pub record AreMarked (lines : List Line) (front : List Request) (placed : List Bool) : Type 0 where
  pub count : length placed ≡ length lines
  pub marked : (i : ℕ) (r : Request) → slice_get placed i ≡ Some true → slice_get lines i ≡ Some (Submit r) → IsMember front r.client r.id
  pub unmarked : (i : ℕ) (r : Request) → slice_get placed i ≡ Some false → slice_get lines i ≡ Some (Submit r)
      → IsNoMember front r.client r.id
