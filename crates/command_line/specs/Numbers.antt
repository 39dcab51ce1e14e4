-- Numbers in decimal digits.
use Rattle.std.specs.Prelude.{ℕ, ◌+◌, ◌-◌, ◌*◌, List, [], ◌∷◌, Option, Some, None, nat_le, ◌&&◌, if◌then◌else◌}

-- the number so far and one more digit, up to a greatest number
abbrev pub digit_on : ℕ → ℕ → ℕ → Option ℕ
digit_on most n d = if nat_le 48 d && (nat_le d 57 && nat_le (n * 10 + (d - 48)) most) then Some (n * 10 + (d - 48)) else None

abbrev pub number_on : ℕ → Option ℕ → List ℕ → Option ℕ
number_on most n [] = n
number_on most None (d ∷ ds) = None
number_on most (Some n) (d ∷ ds) = number_on most (digit_on most n d) ds

abbrev pub at_least : ℕ → Option ℕ → Option ℕ
at_least least None = None
at_least least (Some n) = if nat_le least n then Some n else None

-- one or more decimal digits, from a least to a greatest number
unfoldable pub number_of : ℕ → ℕ → List ℕ → Option ℕ
number_of least most [] = None
number_of least most (d ∷ ds) = at_least least (number_on most (Some 0) (d ∷ ds))
