-- Where each client and id is submitted.
use Rattle.std.specs.Prelude.{◌≡◌, ℕ, ◌==◌, ◌&&◌, ◌<◌, Bool, List, Option, Some, None, slice_get}
use Rattle.std.specs.BTreeMap.{get}
use Rattle.std.specs.Ordering.{nat_cmp, ordering_then}
use Rattle.std.specs.declared.cmp.Ordering.{Ordering}
use Rattle.nop_types.specs.Legality.{IsOf}
use Rattle.nop_types.specs.Lines.{Line, Submit}
use Rattle.nop_types.specs.declared.request.Request.{Request}
use Rattle.pairs.specs.declared.submitted.Submitted.{Submitted}

abbrev pub same_pair : ℕ × ℕ → ℕ × ℕ → Bool
same_pair p q = (p.0 == q.0) && (p.1 == q.1)

abbrev pub pair_cmp : ℕ × ℕ → ℕ × ℕ → Ordering
pair_cmp p q = ordering_then (nat_cmp p.0 q.0) (nat_cmp p.1 q.1)

-- the place that is noted for a client and id
abbrev pub place_in : Submitted → ℕ × ℕ → Option ℕ
place_in submitted p = get pair_cmp submitted.places p

-- among the first k lines, the one at the place i submits the client and id
pub record SubmitsAt (lines : List Line) (k : ℕ) (p : ℕ × ℕ) (i : ℕ) : Type 0 where
  pub before : i < k
  pub request : Request
  pub line : slice_get lines i ≡ Some (Submit request)
  pub same : IsOf p.0 p.1 request

-- what the first k lines submit, and at which places
pub record IsNoted (lines : List Line) (k : ℕ) (f : ℕ × ℕ → Option ℕ) : Type 0 where
  pub found : (p : ℕ × ℕ) (i : ℕ) → f p ≡ Some i → SubmitsAt lines k p i
  pub missing : (p : ℕ × ℕ) → f p ≡ None → (i : ℕ) → SubmitsAt lines k p i → ⊥
