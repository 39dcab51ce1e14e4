-- A number ends where a digit does not go on.
use Rattle.std.proofs.Common.{◌≡◌, ℕ, ◌+◌, ◌<◌, List, [], ◌∷◌, length, drop, get_or, Some, None, refl, sym, ◌∙◌, add-one, drop-cons}
use Rattle.line_fields.specs.Fields.{digit_on, number_on}

none_on : (ds : List ℕ) → number_on None ds ≡ None
none_on [] = refl
none_on (d ∷ ds) = refl

pub digit_stops : (n i : ℕ) (ds : List ℕ) → i < length ds → digit_on n (get_or ds i 0) ≡ None
    → number_on (Some n) (drop i ds) ≡ number_on (Some 0) ds → number_on (Some 0) ds ≡ None
digit_stops n i ds lt stops keep =
    let one : number_on (Some n) (drop i ds) ≡ number_on (digit_on n (get_or ds i 0)) (drop (i + 1) ds) =
    rw (add-one, drop-cons ds i 0) refl in
    sym keep ∙ one ∙ rw stops (none_on (drop (i + 1) ds))
