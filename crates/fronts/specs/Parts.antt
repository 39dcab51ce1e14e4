-- Parts of a service: what ops of one part do and answer does not rest on ops of other parts.
use Rattle.std.specs.Prelude.{◌≡◌, ◌≤◌, ◌<◌, ℕ, Bool, true, false, List, Some, filter, length, slice_get}
use Rattle.std.specs.Str.{bytes_eq}
use Rattle.nop_types.specs.Legality.{IsOf}
use Rattle.nop_types.specs.Lines.{Line, Submit, Accept}
use Rattle.nop_types.specs.Lists.{Has}
use Rattle.nop_types.specs.Meaning.{Meaning}
use Rattle.nop_types.specs.declared.request.Request.{Request}

-- among ops that fit, those that are mine answer by my part of the state, which they alone change; `Same` says that two states have
-- the same part
pub record IsPart {S : Type 0} (m : Meaning S) (Fits : List ℕ → Type 0) (mine : List ℕ → Bool) (Same : S → S → Type 0) : Type 0 where
  pub opens : Same m.opening m.opening
  pub answers : (s t : S) (op : List ℕ) → Fits op → mine op ≡ true → Same s t → m.answer s op ≡ m.answer t op
  pub keeps : (s t : S) (op : List ℕ) → Fits op → mine op ≡ true → Same s t → Same (m.after s op) (m.after t op)
  pub leaves : (s t : S) (op : List ℕ) → Fits op → mine op ≡ false → Same s t → Same (m.after s op) t

-- no part is there twice
abbrev pub AreDistinct : List (List ℕ) → Type 0
AreDistinct parts = (i j : ℕ) (p : List ℕ) → slice_get parts i ≡ Some p → slice_get parts j ≡ Some p → i ≡ j

-- whether an op is of this part
abbrev pub is_of : (List ℕ → List ℕ) → List ℕ → List ℕ → Bool
is_of part p op = bytes_eq (part op) p

-- all that is submitted is of these parts, of which there are few
pub record HasParts (part : List ℕ → List ℕ) (most : ℕ) (lines : List Line) (parts : List (List ℕ)) : Type 0 where
  pub few : length parts ≤ most
  pub distinct : AreDistinct parts
  pub all : (r : Request) → Has lines (Submit r) → Has parts (part r.op)

-- the requests of a part, in order
abbrev pub of_part : (List ℕ → Bool) → List Request → List Request
of_part mine history = filter (λ r. mine r.op) history

-- a line is my own where the op that it submits, or whose result it accepts, is mine
pub record AreOwn (lines : List Line) (mine : List ℕ → Bool) (own : Line → Bool) : Type 0 where
  pub submits : (r : Request) → own (Submit r) ≡ mine r.op
  pub accepts : (client id : ℕ) (result : List ℕ) (r : Request) → Has lines (Submit r) → IsOf client id r
      → own (Accept client id result) ≡ mine r.op

-- each member of the history has a line before which it was placed: later members have no earlier ones, and it lies between the lines
-- that submit and accept the member
pub record AreTimed (lines : List Line) (history : List Request) (time : ℕ → ℕ) : Type 0 where
  pub rises : (i j : ℕ) → i ≤ j → j < length history → time i ≤ time j
  pub begun : (i l : ℕ) (r q : Request) → slice_get history i ≡ Some r → slice_get lines l ≡ Some (Submit q) → IsOf q.client q.id r
      → l < time i
  pub ended : (i k client id : ℕ) (result : List ℕ) (r : Request) → slice_get history i ≡ Some r
      → slice_get lines k ≡ Some (Accept client id result) → IsOf client id r → time i ≤ k
