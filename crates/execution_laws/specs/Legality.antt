-- What the laws on legality speak of: lines that are added, and why a line may accept.
use Rattle.std.specs.Prelude.{◌≡◌, ◌≤◌, ⊤, ℕ, List, length, take, Some, slice_get}
use Rattle.nop_types.specs.declared.request.Request.{Request}
use Rattle.nop_types.specs.declared.request.Entry.{Entry}
use Rattle.nop_types.specs.declared.request.Entry.TheVariants.{Req}
use Rattle.nop_types.specs.Meaning.{Meaning}
use Rattle.nop_types.specs.Lists.{Has, slot_of}
use Rattle.nop_types.specs.Lines.{Line, Submit, Accept}
use Rattle.nop_types.specs.Execution.{result_at}
use Rattle.nop_types.specs.Histories.{history_of}
use Rattle.nop_types.specs.Legality.{IsOf, IsAnswered, IsSubmittedBefore, AcceptedOnce}

-- a line that neither submits nor accepts
abbrev pub IsOtherLine : Line → Type 0
IsOtherLine (Submit request) = ⊥
IsOtherLine (Accept client id result) = ⊥
IsOtherLine _ = ⊤

-- no line submits a request of the client and id
abbrev pub IsUnsubmitted : List Line → ℕ → ℕ → Type 0
IsUnsubmitted lines client id = (r : Request) → Has lines (Submit r) → IsOf client id r → ⊥

-- no line accepts the client and id
abbrev pub IsUnaccepted : List Line → ℕ → ℕ → Type 0
IsUnaccepted lines client id = (result : List ℕ) → Has lines (Accept client id result) → ⊥

-- no member of the history has the client and id
abbrev pub IsNoMember : List Request → ℕ → ℕ → Type 0
IsNoMember history client id = (r : Request) → Has history r → IsOf client id r → ⊥

-- at most one line submits each client and id
abbrev pub SubmittedOnce : List Line → Type 0
SubmittedOnce lines =
    (k l : ℕ) (p q : Request) → slice_get lines k ≡ Some (Submit p) → slice_get lines l ≡ Some (Submit q) → IsOf p.client p.id q → k ≡ l

-- why the line at a place k may accept: the log has the request at a slot with this result, and lines before k submit each request up to
-- there
pub record IsGrounded {S : Type 0} (m : Meaning S) (lines : List Line) (log : List Entry) (k client id : ℕ) (result : List ℕ) : Type 0 where
  pub slot : ℕ
  pub request : Request
  pub entry : slot_of log slot ≡ Some (Req request)
  pub same : IsOf client id request
  pub gives : result_at m log slot ≡ Some result
  pub known : (r : Request) → Has (take slot log) (Req r) → IsSubmittedBefore lines k r.client r.id

-- from a slot on the history has the client and id: that of the first entries of the log, as many as the slot says or more, answers there
-- with the result
pub record StandsFrom {S : Type 0} (m : Meaning S) (log : List Entry) (client id slot : ℕ) (result : List ℕ) : Type 0 where
  pub within : slot ≤ length log
  pub answered : (position : ℕ) → slot ≤ position → IsAnswered m (history_of (take position log)) client id result

-- each request of the log is submitted, no client and id is submitted or accepted twice, and each accept line has its grounds in the log
pub record Grounded {S : Type 0} (m : Meaning S) (lines : List Line) (log : List Entry) : Type 0 where
  pub submitted : (r : Request) → Has log (Req r) → Has lines (Submit r)
  pub submitted_once : SubmittedOnce lines
  pub accepted_once : AcceptedOnce lines
  pub grounds : (k client id : ℕ) (result : List ℕ) → slice_get lines k ≡ Some (Accept client id result)
      → IsGrounded m lines log k client id result
