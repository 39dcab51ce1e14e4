-- A front: the members of a history that were placed so far, while lines are gone through.
use Rattle.std.specs.Prelude.{◌≡◌, ℕ, ◌<◌, List, [], ◌∷◌, ◌++◌, Some, slice_get}
use Rattle.execution_laws.specs.Legality.{IsNoMember}
use Rattle.nop_types.specs.Histories.{answer_at}
use Rattle.nop_types.specs.Legality.{IsOf, IsSubmittedBefore, Legal}
use Rattle.nop_types.specs.Lines.{Line, Submit, Accept}
use Rattle.nop_types.specs.Lists.{Has}
use Rattle.nop_types.specs.Meaning.{Meaning}
use Rattle.nop_types.specs.declared.request.Request.{Request}

-- no two members have one client and id
abbrev pub AreApart : List Request → Type 0
AreApart history = (i j : ℕ) (p q : Request) → slice_get history i ≡ Some p → slice_get history j ≡ Some q → IsOf p.client p.id q → i ≡ j

-- the state that requests leave
abbrev pub after_all : {S : Type 0} → Meaning S → S → List Request → S
after_all m s [] = s
after_all m s (r ∷ rs) = after_all m (m.after s r.op) rs

-- some history is legal for the lines
pub record HasOrder {S : Type 0} (m : Meaning S) (lines : List Line) : Type 0 where
  pub history : List Request
  pub legal : Legal m lines history

-- some history that begins so is legal for the lines
pub record GoesOn {S : Type 0} (m : Meaning S) (lines : List Line) (front : List Request) : Type 0 where
  pub rest : List Request
  pub legal : Legal m lines (front ++ rest)

-- a line before the place k submits this request
pub record IsSubmittedAt (lines : List Line) (k : ℕ) (r : Request) : Type 0 where
  pub place : ℕ
  pub before : place < k
  pub line : slice_get lines place ≡ Some (Submit r)

-- the front has a member of the client and id
pub record IsMember (front : List Request) (client id : ℕ) : Type 0 where
  pub request : Request
  pub member : Has front request
  pub same : IsOf client id request

-- where a line accepts the request, its result is what the host answers in this state
abbrev pub Agrees : {S : Type 0} → Meaning S → List Line → S → Request → Type 0
Agrees m lines s r = (result : List ℕ) → Has lines (Accept r.client r.id result) → m.answer s r.op ≡ result

-- the op changes nothing
abbrev pub OnlyReads : {S : Type 0} → Meaning S → List ℕ → Type 0
OnlyReads {S} m op = (s : S) → m.after s op ≡ s

-- the request may be placed next, when k lines are passed
pub record MayFollow {S : Type 0} (m : Meaning S) (lines : List Line) (k : ℕ) (front : List Request) (r : Request) : Type 0 where
  pub submitted : IsSubmittedAt lines k r
  pub new : IsNoMember front r.client r.id
  pub agrees : Agrees m lines (after_all m m.opening front) r

-- each line that accepts stands behind one that submits its client and id
abbrev pub AcceptedLater : List Line → Type 0
AcceptedLater lines =
    (j client id : ℕ) (result : List ℕ) → slice_get lines j ≡ Some (Accept client id result) → IsSubmittedBefore lines j client id

-- what is accepted before something is submitted stands before it
abbrev pub AreOrdered : List Line → List Request → Type 0
AreOrdered lines front =
    (k l client id : ℕ) (result : List ℕ) (p : Request) → k < l → slice_get lines k ≡ Some (Accept client id result)
    → slice_get lines l ≡ Some (Submit p)
    → (i j : ℕ) (a b : Request) → slice_get front i ≡ Some a → IsOf client id a → slice_get front j ≡ Some b → IsOf p.client p.id b
    → i < j

-- the front is right for the first k lines, and answers as all lines accept
pub record IsFront {S : Type 0} (m : Meaning S) (lines : List Line) (k : ℕ) (front : List Request) : Type 0 where
  pub apart : AreApart front
  pub submitted : (r : Request) → Has front r → IsSubmittedAt lines k r
  pub accepted : (j client id : ℕ) (result : List ℕ) → j < k → slice_get lines j ≡ Some (Accept client id result) → IsMember front client id
  pub answered : (i : ℕ) (r : Request) (result : List ℕ) → slice_get front i ≡ Some r → Has lines (Accept r.client r.id result)
      → answer_at m front i ≡ Some result
  pub ordered : AreOrdered lines front

-- g has the members of f, but for some that no line accepts, and no others; the same state is after both
pub record IsAlike {S : Type 0} (m : Meaning S) (lines : List Line) (f g : List Request) : Type 0 where
  pub members : (r : Request) → Has g r → Has f r
  pub accepted : (r : Request) (result : List ℕ) → Has f r → Has lines (Accept r.client r.id result) → Has g r
  pub state : after_all m m.opening f ≡ after_all m m.opening g
