-- What was submitted and accepted, against a history.
use Rattle.std.specs.Prelude.{◌≡◌, ℕ, ◌<◌, List, Some, slice_get}
use Rattle.nop_types.specs.declared.request.Request.{Request}
use Rattle.nop_types.specs.Meaning.{Meaning}
use Rattle.nop_types.specs.Lists.{Has}
use Rattle.nop_types.specs.Lines.{Line, Submit, Accept}
use Rattle.nop_types.specs.Histories.{answer_at}

-- a request of this client and id
pub record IsOf (client id : ℕ) (r : Request) : Type 0 where
  pub same_client : r.client ≡ client
  pub same_id : r.id ≡ id

-- a line before the place k submits a request of the client and id
pub record IsSubmittedBefore (lines : List Line) (k client id : ℕ) : Type 0 where
  pub place : ℕ
  pub before : place < k
  pub request : Request
  pub line : slice_get lines place ≡ Some (Submit request)
  pub same : IsOf client id request

-- the history has the client and id at a place where the host answers with the result
pub record IsAnswered {S : Type 0} (m : Meaning S) (history : List Request) (client id : ℕ) (result : List ℕ) : Type 0 where
  pub place : ℕ
  pub request : Request
  pub member : slice_get history place ≡ Some request
  pub same : IsOf client id request
  pub answer : answer_at m history place ≡ Some result

abbrev pub AcceptedOnce : List Line → Type 0
AcceptedOnce lines = (k l client id : ℕ) (a b : List ℕ) → slice_get lines k ≡ Some (Accept client id a)
    → slice_get lines l ≡ Some (Accept client id b) → k ≡ l

pub record Legal {S : Type 0} (m : Meaning S) (lines : List Line) (history : List Request) : Type 0 where
  -- no two members have the same client and id
  pub apart : (i j : ℕ) (p q : Request) → slice_get history i ≡ Some p → slice_get history j ≡ Some q → IsOf p.client p.id q → i ≡ j
  -- each member has a submit line with its client, id and op
  pub submitted : (r : Request) → Has history r → Has lines (Submit r)
  -- each accept line stands after a submit line of its client and id
  pub later : (k client id : ℕ) (result : List ℕ) → slice_get lines k ≡ Some (Accept client id result) → IsSubmittedBefore lines k client id
  -- at most one for each
  pub once : AcceptedOnce lines
  -- and the pair is in the history with the result
  pub answered : (k client id : ℕ) (result : List ℕ) → slice_get lines k ≡ Some (Accept client id result)
      → IsAnswered m history client id result
  -- where an accept line of A stands before a submit line of B's client and id, A stands before B in the history
  pub ordered : (k l client id : ℕ) (result : List ℕ) (p : Request) → k < l → slice_get lines k ≡ Some (Accept client id result)
      → slice_get lines l ≡ Some (Submit p)
      → (i j : ℕ) (a b : Request) → slice_get history i ≡ Some a → IsOf client id a → slice_get history j ≡ Some b → IsOf p.client p.id b
      → i < j
