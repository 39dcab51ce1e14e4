-- A number ends where a digit does not go on.
use Rattle.std.proofs.Common.{◌≡◌, ℕ, ◌+◌, ◌<◌, List, [], ◌∷◌, length, drop, get_or, Some, None, refl, sym, ◌∙◌, add-one, drop-cons}
use Rattle.command_line.specs.Numbers.{digit_on, number_on}

none_on : (most : ℕ) (ds : List ℕ) → number_on most None ds ≡ None
none_on most [] = refl
none_on most (d ∷ ds) = refl

pub digit_stops : (most n i : ℕ) (ds : List ℕ) → i < length ds → digit_on most n (get_or ds i 0) ≡ None
    → number_on most (Some n) (drop i ds) ≡ number_on most (Some 0) ds → number_on most (Some 0) ds ≡ None
digit_stops most n i ds lt stops keep =
    let one : number_on most (Some n) (drop i ds) ≡ number_on most (digit_on most n (get_or ds i 0)) (drop (i + 1) ds) =
    rw (add-one, drop-cons ds i 0) refl in
    sym keep ∙ one ∙ rw stops (none_on most (drop (i + 1) ds))
