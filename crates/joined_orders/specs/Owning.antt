-- Which lines are of a part, and at which places they stand.
use Rattle.std.specs.Prelude.{ℕ, zero, suc, ◌==◌, ◌&&◌, Bool, false, cond, List, [], ◌∷◌, ◌++◌, Option, Some, None, slice_get}
use Rattle.std.specs.List.{list_any}
use Rattle.fronts.specs.Parts.{is_of}
use Rattle.nop_types.specs.Lines.{Line, Submit, Accept}

-- whether a line submits the client and id, with an op of the part
abbrev pub submits_own : (List ℕ → List ℕ) → List ℕ → ℕ → ℕ → Line → Bool
submits_own part p client id (Submit r) = ((r.client == client) && (r.id == id)) && is_of part p r.op
submits_own part p client id _ = false

-- whether a line is of the part: by the op that it submits, or by the one whose result it accepts
abbrev pub is_own : (List ℕ → List ℕ) → List Line → List ℕ → Line → Bool
is_own part lines p (Submit r) = is_of part p r.op
is_own part lines p (Accept client id result) = list_any (submits_own part p client id) lines
is_own part lines p _ = false

-- whether a member is there that passes
abbrev pub passes : {A : Type 0} → (A → Bool) → Option A → Bool
passes p None = false
passes p (Some x) = p x

-- the places below k of the members that pass, in order
abbrev pub places_where : {A : Type 0} → (A → Bool) → List A → ℕ → List ℕ
places_where p xs zero = []
places_where p xs (suc k) = places_where p xs k ++ cond (passes p (slice_get xs k)) (k ∷ []) []

abbrev pub one_of : {A : Type 0} → Option A → List A
one_of None = []
one_of (Some x) = x ∷ []

-- the members at these places
abbrev pub members_at : {A : Type 0} → List A → List ℕ → List A
members_at xs [] = []
members_at xs (i ∷ places) = one_of (slice_get xs i) ++ members_at xs places
