-- Numbers of eight bytes.
use Rattle.std.specs.Prelude.{ℕ, ◌<◌, ◌^◌, List, length, take, drop, Option, Some, None, nat_lt, if◌then◌else◌}
use Rattle.std.specs.Int.{w64, from_be_bytes, to_be_bytes}
use Rattle.nop_types.specs.Lists.{all_below}
use Rattle.saved_fields.specs.Fields.{Begins}

-- a number in eight bytes, the highest first
unfoldable pub number_bytes : ℕ → List ℕ
number_bytes n = to_be_bytes w64 n

-- the number in the first eight bytes, the highest one first, and what follows it
abbrev pub first_eight : List ℕ → Option (ℕ × List ℕ)
first_eight bytes = if nat_lt (length bytes) 8 then None else Some (from_be_bytes w64 (take 8 bytes), drop 8 bytes)

-- a number, and what follows it; none where one of its bytes is above 255
unfoldable pub number_at : List ℕ → Option (ℕ × List ℕ)
number_at bytes = if all_below (take 8 bytes) 256 then first_eight bytes else None

abbrev pub NumberFits : ℕ → Type 0
NumberFits n = n < 2 ^ 64

-- the bytes begin with the number
abbrev pub BeginsNumber : List ℕ → ℕ × List ℕ → Type 0
BeginsNumber = Begins NumberFits number_bytes
