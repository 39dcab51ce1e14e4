-- Which lines submit and accept the same client and id.
use Rattle.std.specs.Prelude.{◌≡◌, ℕ, ◌<◌, List, Option, Some, length, slice_get}
use Rattle.nop_types.specs.Legality.{IsOf}
use Rattle.nop_types.specs.Lines.{Line, Submit, Accept}
use Rattle.nop_types.specs.declared.request.Request.{Request}
use Rattle.pairs.specs.Submitted.{IsNoted}

-- the line at the place i submits what the one at the place j accepts
pub record IsPair (lines : List Line) (i j : ℕ) : Type 0 where
  pub before : i < j
  pub request : Request
  pub result : List ℕ
  pub submits : slice_get lines i ≡ Some (Submit request)
  pub accepts : slice_get lines j ≡ Some (Accept request.client request.id result)

-- the lines at these two places have each other's place
pub record HasSubmit (accepts submits : List (Option ℕ)) (j : ℕ) : Type 0 where
  pub place : ℕ
  pub there : slice_get submits j ≡ Some (Some place)
  pub back : slice_get accepts place ≡ Some (Some j)

-- for each of the first k lines: the place where what it submits is accepted, if it submits and this is among them; and the place where
-- what it accepts is submitted, if it accepts. No client and id is submitted twice
pub record ArePaired (lines : List Line) (k : ℕ) (accepts submits : List (Option ℕ)) : Type 0 where
  pub accepts_length : length accepts ≡ k
  pub submits_length : length submits ≡ k
  pub accepted : (i j : ℕ) → slice_get accepts i ≡ Some (Some j) → IsPair lines i j
  pub submitted : (i j : ℕ) → slice_get submits j ≡ Some (Some i) → IsPair lines i j
  pub founded : (j client id : ℕ) (result : List ℕ) → j < k → slice_get lines j ≡ Some (Accept client id result)
      → HasSubmit accepts submits j
  pub once : (i j : ℕ) (p q : Request) → i < k → j < k → slice_get lines i ≡ Some (Submit p) → slice_get lines j ≡ Some (Submit q)
      → IsOf p.client p.id q → i ≡ j

-- as far as the first k lines
pub record IsPairing (lines : List Line) (k : ℕ) (f : ℕ × ℕ → Option ℕ) (accepts submits : List (Option ℕ)) : Type 0 where
  pub noted : IsNoted lines k f
  pub paired : ArePaired lines k accepts submits
  pub recent : (i j : ℕ) → slice_get accepts i ≡ Some (Some j) → j < k
