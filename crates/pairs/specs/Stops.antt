-- Why lines have no pairs.
use Rattle.std.specs.Prelude.{◌≡◌, ◌⊎◌, ⊤, ℕ, ◌<◌, List, Some, slice_get}
use Rattle.nop_types.specs.Legality.{IsOf, IsSubmittedBefore}
use Rattle.nop_types.specs.Lines.{Line, Submit, Accept}
use Rattle.nop_types.specs.declared.request.Request.{Request}
use Rattle.pairs.specs.declared.unpaired.Unpaired.{Unpaired}
use Rattle.pairs.specs.declared.unpaired.Unpaired.TheVariants as unpaired

-- the line at the place k submits a client and id that an earlier one submits
pub record IsRepeat (lines : List Line) (k : ℕ) : Type 0 where
  pub earlier : ℕ
  pub before : earlier < k
  pub first : Request
  pub second : Request
  pub first_line : slice_get lines earlier ≡ Some (Submit first)
  pub second_line : slice_get lines k ≡ Some (Submit second)
  pub same : IsOf first.client first.id second

-- a line before the place k accepts the client and id
pub record IsAcceptedBefore (lines : List Line) (k client id : ℕ) : Type 0 where
  pub place : ℕ
  pub before : place < k
  pub result : List ℕ
  pub line : slice_get lines place ≡ Some (Accept client id result)

-- the line at the place k accepts a client and id that no earlier line submits, or that an earlier one accepts
pub record IsGroundless (lines : List Line) (k : ℕ) : Type 0 where
  pub client : ℕ
  pub id : ℕ
  pub result : List ℕ
  pub line : slice_get lines k ≡ Some (Accept client id result)
  pub lacks : (IsSubmittedBefore lines k client id → ⊥) ⊎ IsAcceptedBefore lines k client id

-- no line before the place k is such
pub record AreGood (lines : List Line) (k : ℕ) : Type 0 where
  pub new : (j : ℕ) → j < k → IsRepeat lines j → ⊥
  pub grounded : (j : ℕ) → j < k → IsGroundless lines j → ⊥

-- the first line that is such
abbrev pub StopsAt : List Line → Unpaired → Type 0
StopsAt lines (unpaired.Repeated k) = IsRepeat lines k × AreGood lines k
StopsAt lines (unpaired.Groundless k) = IsGroundless lines k × AreGood lines k
StopsAt lines unpaired.NoMemory = ⊤
