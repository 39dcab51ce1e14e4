-- Claims by parts.
use Rattle.std.specs.Prelude.{◌≡◌, ◌⊎◌, ◌<◌, ℕ, true, List, [], ◌∷◌, ◌++◌, Some, length, map, slice_get, slice_set}
use Rattle.fronts.specs.Parts.{AreDistinct}
use Rattle.joined_orders.specs.Owning.{is_own, passes, places_where}
use Rattle.joined_orders.specs.declared.part.Part.{Part}
use Rattle.nop_types.specs.Lines.{Line, Submit, Accept}
use Rattle.nop_types.specs.Lists.{Has}
use Rattle.nop_types.specs.declared.request.Request.{Request}

-- the line at `submit` submits what the one at `place` submits or accepts
pub record IsAbout (lines : List Line) (place submit : ℕ) : Type 0 where
  pub request : Request
  pub submits : slice_get lines submit ≡ Some (Submit request)
  pub line : (slice_get lines place ≡ Some (Submit request))
      ⊎ ((result : List ℕ) × (slice_get lines place ≡ Some (Accept request.client request.id result)))

-- the line at a place submits this op, or accepts a result of it
pub record IsOpOf (lines : List Line) (place : ℕ) (op : List ℕ) : Type 0 where
  pub submit : ℕ
  pub about : IsAbout lines place submit
  pub op_is : op ≡ about.request.op

abbrev pub part_names : List Part → List (List ℕ)
part_names parts = map (λ x. x.name.now) parts

-- an op of the part is submitted
abbrev pub IsUsed : (List ℕ → List ℕ) → List Line → List ℕ → Type 0
IsUsed part lines p = (r : Request) × Has lines (Submit r) × (part r.op ≡ p)

-- the first k lines by parts
pub record AreSplit (part : List ℕ → List ℕ) (lines : List Line) (k : ℕ) (parts : List Part) : Type 0 where
  pub distinct : AreDistinct (part_names parts)
  pub used : (p : List ℕ) → Has (part_names parts) p → IsUsed part lines p
  pub known : (i : ℕ) (p : List ℕ) → i < k → passes (is_own part lines p) (slice_get lines i) ≡ true → Has (part_names parts) p
  pub places : (j : ℕ) (x : Part) → slice_get parts j ≡ Some x → x.places.items ≡ places_where (is_own part lines x.name.now) lines k

-- ops of more than so many parts are submitted
pub record HasManyParts (part : List ℕ → List ℕ) (most : ℕ) (lines : List Line) : Type 0 where
  pub parts : List (List ℕ)
  pub distinct : AreDistinct parts
  pub used : (p : List ℕ) → Has parts p → IsUsed part lines p
  pub many : most < length parts

-- a part of this name without places was added, if there was none of the name
abbrev pub Adds : List Part → List Part → List ℕ → Type 0
Adds old new name =
    (new ≡ old) ⊎ ((Has (part_names old) name → ⊥) × (x : Part) × (x.name.now ≡ name) × (x.places.items ≡ []) × (new ≡ old ++ x ∷ []))

-- the part of this number has one place more
pub record IsNotedAt (old new : List Part) (number place : ℕ) : Type 0 where
  pub former : Part
  pub latter : Part
  pub there : slice_get old number ≡ Some former
  pub name_stays : latter.name.now ≡ former.name.now
  pub more : latter.places.items ≡ former.places.items ++ place ∷ []
  pub new_is : new ≡ slice_set old number latter

-- the part of this name has one place more, and was added if it is new
pub record Takes (old new : List Part) (name : List ℕ) (place : ℕ) : Type 0 where
  pub between : List Part
  pub adds : Adds old between name
  pub number : ℕ
  pub there : slice_get (part_names between) number ≡ Some name
  pub noted : IsNotedAt between new number place
