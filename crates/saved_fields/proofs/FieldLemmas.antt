-- A number at the front of bytes is read.
use Rattle.std.proofs.Common.{◌≡◌, ℕ, zero, suc, ◌<◌, true, List, [], ◌∷◌, take, get_or, refl, arith, ◌^◌, Some, sym, ap, ◌∙◌}
use Rattle.std.proofs.lemmas.Bool.Decides.{nat_tests}
use Rattle.std.proofs.lemmas.List.{append-nil}
use Rattle.nop_types.specs.Lists.{all_below}
use Rattle.saved_fields.specs.Numbers.{first_eight, number_at, number_bytes}
use Rattle.saved_fields.specs.Reading.{number_at-number}

all_below-take : (n : ℕ) (bytes : List ℕ) → ((i : ℕ) → get_or bytes i 0 < 256) → all_below (take n bytes) 256 ≡ true
all_below-take zero bytes h = refl
all_below-take (suc n) [] h = refl
all_below-take (suc n) (b ∷ bytes) h =
    let first = h 0 in
    let rest = all_below-take n bytes (λ i. h (suc i)) in
    grind (arith, nat_tests)

-- all that is read are bytes
pub number_at-bytes : (bytes : List ℕ) → ((i : ℕ) → get_or bytes i 0 < 256) → first_eight bytes ≡ number_at bytes
unfolding number_at
number_at-bytes bytes h = rw (all_below-take 8 bytes h) refl

-- where nothing stands behind a number
pub last_number : (n : ℕ) → n < 2 ^ 64 → number_at (number_bytes n) ≡ Some (n, [])
last_number n fits = ap number_at (sym (append-nil (number_bytes n))) ∙ number_at-number n [] fits
