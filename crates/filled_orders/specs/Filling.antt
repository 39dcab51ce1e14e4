-- The answers of a history, filled into the lines whose results are unknown.
use Rattle.std.specs.Prelude.{◌≡◌, ◌⊎◌, ℕ, zero, suc, ◌==◌, ◌&&◌, Bool, false, cond, List, [], ◌∷◌, Option, Some, None, map, slice_get}
use Rattle.nop_types.specs.Lines.{Line, Submit, Accept}
use Rattle.nop_types.specs.Meaning.{Meaning}
use Rattle.nop_types.specs.declared.request.Request.{Request}

-- a line with this answer to a request, if it accepts the request and its result is unknown
abbrev pub answered : (ℕ → ℕ → Bool) → Request → List ℕ → Line → Line
answered unknown r answer (Accept client id result) =
    Accept client id (cond (((client == r.client) && (id == r.id)) && unknown client id) answer result)
answered unknown r answer line = line

-- the lines with the answers to these requests, from a state on
abbrev pub filled_along : {S : Type 0} → Meaning S → (ℕ → ℕ → Bool) → S → List Request → List Line → List Line
filled_along m unknown s [] lines = lines
filled_along m unknown s (r ∷ history) lines =
    filled_along m unknown (m.after s r.op) history (map (answered unknown r (m.answer s r.op)) lines)

-- ---- by the places of lines

-- a line that accepts this result, if it accepts one
abbrev pub with_result : List ℕ → Line → Line
with_result answer (Accept client id result) = Accept client id answer
with_result answer line = line

-- the lines with this result at a place, or at none
abbrev pub set_result : List Line → Option ℕ → List ℕ → List Line
set_result lines None answer = lines
set_result [] (Some k) answer = []
set_result (line ∷ lines) (Some zero) answer = with_result answer line ∷ lines
set_result (line ∷ lines) (Some (suc k)) answer = line ∷ set_result lines (Some k) answer

abbrev pub has_mark : Option Bool → Bool
has_mark None = false
has_mark (Some mark) = mark

-- the place of the line that accepts a request and has a mark, by where it is accepted
abbrev pub marked_of : List Bool → Option (Option ℕ) → Option ℕ
marked_of marks None = None
marked_of marks (Some None) = None
marked_of marks (Some (Some k)) = cond (has_mark (slice_get marks k)) (Some k) None

-- where what the line at a place submits or accepts is accepted: at this place, by what is known of what is submitted, or nowhere
abbrev pub IsAcceptOf : List Line → List (Option ℕ) → ℕ → Option ℕ → Type 0
IsAcceptOf lines accepts place o =
    ((r : Request) × (slice_get lines place ≡ Some (Submit r)) × (slice_get accepts place ≡ Some o))
    ⊎ ((client id : ℕ) × (result : List ℕ) × (slice_get lines place ≡ Some (Accept client id result)) × (o ≡ Some place))
