-- Lines with all results filled in.
use Rattle.std.specs.Prelude.{◌≡◌, ℕ, Bool, true, List, Some, map, slice_get}
use Rattle.fronts.specs.Fronts.{HasOrder}
use Rattle.nop_types.specs.Histories.{answer_at}
use Rattle.nop_types.specs.Legality.{IsOf}
use Rattle.nop_types.specs.Lines.{Line, Accept}
use Rattle.nop_types.specs.Meaning.{Meaning}
use Rattle.nop_types.specs.declared.request.Request.{Request}
use Rattle.unknown_results.specs.Asking.{erased}

-- the same lines, but for results that are unknown
abbrev pub Fills : (ℕ → ℕ → Bool) → List Line → List Line → Type 0
Fills unknown lines filled = map (erased unknown) filled ≡ map (erased unknown) lines

-- where the result is unknown, a line accepts the answer that the request has in the history
abbrev pub AreAnswers : {S : Type 0} → Meaning S → (ℕ → ℕ → Bool) → List Line → List Request → Type 0
AreAnswers m unknown filled history =
    (k client id : ℕ) (result : List ℕ) → slice_get filled k ≡ Some (Accept client id result) → unknown client id ≡ true
    → (j : ℕ) (r : Request) → slice_get history j ≡ Some r → IsOf client id r → answer_at m history j ≡ Some result

-- whatever the unknown results are, no history is legal
abbrev pub HasNoOrder : {S : Type 0} → Meaning S → (ℕ → ℕ → Bool) → List Line → Type 0
HasNoOrder m unknown lines = (filled : List Line) → Fills unknown lines filled → HasOrder m filled → ⊥
